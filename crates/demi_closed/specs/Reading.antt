-- Which reads were made of a link's source: only those that were due.
use Rattle.std.specs.Prelude.{◌≡◌, ℕ, ◌<◌, Bool, true, false, List, [], ◌∷◌, flat_map, length, map, take, Option, Some, None}
use Rattle.demi_core.specs.Outside.{bytes_given}
use Rattle.demi_port_core.specs.Trails.{StartsWith}
use Rattle.demi_served.specs.Talks.{LinkRun}
use Rattle.demi_spec.specs.Input.{Open, Parses, Request_of}
use Rattle.demi_spec.specs.Record.{Record}
use Rattle.demi_spec.specs.Reply as reply
use Rattle.demi_spec.specs.Reply.{Reply}
use Rattle.demi_spec.specs.Request.{Request}
use Rattle.demi_spec.specs.Store.{serial}

-- a read gave a byte at least: it did not fail, and did not meet the end of the input
abbrev pub GaveSome : Option (List ℕ) → Type 0
GaveSome None = ⊥
GaveSome (Some bytes) = 0 < length bytes

-- each of these reads did
abbrev pub EachGaveSome : List (Option (List ℕ)) → Type 0
EachGaveSome [] = Unit {0}
EachGaveSome (gave ∷ later) = GaveSome gave × EachGaveSome later

-- Reads of a source after each other, each into a room of some size: what each gave, in order. `reads` is the source's relation of one read.
abbrev pub EachRead : {S : Type 0} → (S → ℕ → Option (List ℕ) → S → Type 0) → S → List (Option (List ℕ)) → S → Type 0
EachRead reads old [] new = new ≡ old
EachRead {S} reads old (gave ∷ later) new = (next : S) × (room : ℕ) × reads old room gave next × EachRead reads next later new

-- One read more is due behind these. Each of them gave some bytes. Together the bytes are whole requests and at most a part of one more, so
-- neither an end frame nor a refused frame is among them. What was written begins with the whole replies to all of these requests, one for
-- each; where the log tells its bytes they are those of the one-thread store on the old records.
pub record IsDueRead (told : Bool) (limit : ℕ) (old : List Record) (earlier : List (Option (List ℕ))) (written : List ℕ) : Type 0 where
  pub gave : EachGaveSome earlier
  pub requests : List Request
  pub parses : Parses requests Open false (bytes_given earlier)
  pub replies : List Reply
  pub each : length replies ≡ length requests
  pub answered : StartsWith written (flat_map reply.spelling replies)
  pub as_store : told ≡ true → replies ≡ (serial old limit (map Request_of requests)).replies

-- Between two moments of a link only due reads were made of its source, each due behind those before it, and they gave all the bytes that
-- were read. So nothing more is read after an end frame, a refused frame, the end of the input or a fault.
pub record OnlyDueReads {S : Type 0} (reads : S → ℕ → Option (List ℕ) → S → Type 0) (told : Bool) (limit : ℕ) (old : List Record) (before after : S) (run : LinkRun) : Type 0 where
  pub made : List (Option (List ℕ))
  pub reads_are : EachRead reads before made after
  pub gave : bytes_given made ≡ run.read
  pub due : (n : ℕ) → n < length made → IsDueRead told limit old (take n made) run.written

-- All that was read whole was answered: the bytes that were read are whole requests and at most a part of one more, and what was written is
-- the whole replies to all of these requests, one for each; where the log tells its bytes they are those of the one-thread store on the old
-- records.
pub record AnsweredInFull (told : Bool) (limit : ℕ) (old : List Record) (run : LinkRun) : Type 0 where
  pub requests : List Request
  pub parses : Parses requests Open false run.read
  pub replies : List Reply
  pub each : length replies ≡ length requests
  pub written : run.written ≡ flat_map reply.spelling replies
  pub as_store : told ≡ true → replies ≡ (serial old limit (map Request_of requests)).replies
