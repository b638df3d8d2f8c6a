-- A session as it is seen from outside: what was read and written of each link, and the records of the log.
use Rattle.std.specs.Prelude.{ℕ, Bool, List, flat_map}
use Rattle.demi_spec.specs.Input.{Asked}
use Rattle.demi_spec.specs.Record.{Record}
use Rattle.demi_spec.specs.Reply.{Reply}

-- one link: the bytes read, the bytes written, and whether its input ended
pub record LinkRun : Type 0 where
  pub read : List ℕ
  pub written : List ℕ
  pub ended : Bool

-- a session: its links, the records of its log, how many of them are old, and how many there may be
pub record Run : Type 0 where
  pub links : List LinkRun
  pub records : List Record
  pub old : ℕ
  pub limit : ℕ

-- what a link asked, and the replies to it
pub record Talk : Type 0 where
  pub asks : List Asked
  pub replies : List Reply

-- the replies of all links
abbrev pub all_of : List Talk → List Reply
all_of talks = flat_map (λ t. t.replies) talks
