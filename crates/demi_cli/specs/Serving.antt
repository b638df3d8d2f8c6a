-- What a run over one link did: what it took, what it was told and what is logged.
use Rattle.std.specs.Prelude.{◌≡◌, ◌≢◌, ℕ, ◌+◌, ◌⊎◌, Bool, true, List, [], length, take, drop, flat_map, Option, Some, None, IfSome}
use Rattle.std.specs.Io.KnownBytes.{prepend_known, append_known}
use Rattle.demi_core.specs.World.{Link, Log}
use Rattle.demi_port_core.specs.Trails.{StartsWith}
use Rattle.demi_served.specs.Served.{Torn}
use Rattle.demi_server.specs.Logs.{LogGrew}
use Rattle.demi_spec.specs.Request.{Request}
use Rattle.demi_spec.specs.Input.{Asked, Ending, Refused, Open, Parses, asked}
use Rattle.demi_spec.specs.Reply.{Reply, spelling}
use Rattle.demi_spec.specs.Record.{Record}
use Rattle.demi_spec.specs.Store.{serial}

-- the replies of the one-thread store with this limit on these records to all of these, the same spelled, and the records that it adds for them
abbrev pub replies_to : ℕ → List Record → List Asked → List Reply
replies_to limit old asks = (serial old limit asks).replies

abbrev pub text_to : ℕ → List Record → List Asked → List ℕ
text_to limit old asks = flat_map spelling (replies_to limit old asks)

abbrev pub records_of : ℕ → List Record → List Asked → List Record
records_of limit old asks = (serial old limit asks).records

-- a link gave these bytes
pub record Took (link kept : Link) (taken : List ℕ) : Type 0 where
  pub left : link.left ≡ prepend_known taken kept.left
  pub count : kept.taken ≡ link.taken + length taken

-- a link was told this
abbrev pub Says : Link → Link → List ℕ → Type 0
Says link kept text = kept.written ≡ append_known link.written text

-- nothing is left, where that is told
abbrev pub AtEnd : Link → Type 0
AtEnd kept = IfSome kept.left (λ left. left ≡ [])

abbrev pub refused_code : Ending → Option ℕ
refused_code (Refused code) = Some code
refused_code other = None

-- The log may have at most this number of records. The input was read to its end frame, to its refused frame or to its end, and the code is that of a refused frame. Where the log tells its
-- bytes the link was told exactly what the one-thread store on the old records says to all that it asked, and the log has grown by exactly
-- the entries of the records that this adds.
pub record Finished (limit : ℕ) (told : Bool) (old : List Record) (link kept : Link) (log kept_log : Log) (code : Option ℕ) : Type 0 where
  pub taken : List ℕ
  -- whether the input ended, which it does only where nothing is left
  pub ended : Bool
  pub requests : List Request
  pub how : Ending
  pub written : List ℕ
  pub records : List Record
  pub took : Took link kept taken
  pub at_end : ended ≡ true → AtEnd kept
  pub parses : Parses requests how ended taken
  pub closed : how ≢ Open
  pub code_is : code ≡ refused_code how
  pub says : Says link kept written
  pub all : told ≡ true → written ≡ text_to limit old (asked taken ended)
  pub added : told ≡ true → drop (length old) records ≡ records_of limit old (asked taken ended)
  pub grew : LogGrew log kept_log old records
  pub whole : grew.torn ≡ []

-- It stopped. These replies were pushed, and written but for an end of the last. Where the log tells its bytes they are the first that
-- the one-thread store on the old records has for all that was asked, and the log has the records that this adds for as many of the
-- requests, or for one more.
pub record Stopped (limit : ℕ) (told : Bool) (old : List Record) (link kept : Link) (log kept_log : Log) : Type 0 where
  pub taken : List ℕ
  pub ended : Bool
  pub replies : List Reply
  pub written : List ℕ
  pub records : List Record
  pub took : Took link kept taken
  pub at_end : ended ≡ true → AtEnd kept
  pub says : Says link kept written
  pub torn : Torn written replies
  pub due : told ≡ true → replies ≡ take (length replies) (replies_to limit old (asked taken ended))
  pub front : told ≡ true → StartsWith (text_to limit old (asked taken ended)) written
  pub added : told ≡ true
      → (drop (length old) records ≡ records_of limit old (take (length replies) (asked taken ended)))
      ⊎ (drop (length old) records ≡ records_of limit old (take (length replies + 1) (asked taken ended)))
  pub grew : LogGrew log kept_log old records
