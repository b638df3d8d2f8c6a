-- What a world gave in a run, and as what it keeps it.
use Rattle.std.specs.Prelude.{◌≡◌, ◌⊎◌, List, ℕ, ◌++◌, [], ◌∷◌, Option, Some, None}
use Rattle.demi_core.specs.World.{WorldState, Link, Log, after_links, after_keep_link, after_log, after_keep_log, LogRefused}

-- the log of this name that the world gave, and as what it keeps it
pub record LogOf (old new : WorldState) (name : List ℕ) : Type 0 where
  pub log : Log
  pub kept : Log
  pub gave : new.given_logs ≡ old.given_logs ++ (name, log) ∷ []
  pub keeps : new.kept_log name ≡ Some kept

-- the link that the world gave, and as what it keeps it
pub record LinkOf (old new : WorldState) : Type 0 where
  pub link : Link
  pub kept : Link
  pub gave : new.given_links ≡ old.given_links ++ link ∷ []
  pub keeps : new.kept_link 0 ≡ Some kept

-- no link was taken, no log was given
abbrev pub NoLink : WorldState → WorldState → Type 0
NoLink old new = new.given_links ≡ old.given_links

abbrev pub NoLog : WorldState → WorldState → Type 0
NoLog old new = new.given_logs ≡ old.given_logs

-- nothing was read of a link, and nothing was said to it: none was taken, or it is kept as it was given
abbrev pub LinkUnused : WorldState → WorldState → Type 0
LinkUnused old new = NoLink old new ⊎ ((l : LinkOf old new) × (l.kept ≡ l.link))

-- what the world gave in a run, and as what it keeps it: nothing, a log, or a log and a link
pub data Gave : Type 0 where
  Nothing : Gave
  A_log : (log kept : Log) (link : Option (Link × Link)) → Gave

-- the world after it gave this link, where there is one, and was handed it back
abbrev pub with_link : Option (Link × Link) → WorldState → WorldState
with_link None w = w
with_link (Some p) w = after_keep_link (after_links w (p.0 ∷ [])) 0 p.1

-- the world after it gave this under this name and was handed it back
abbrev pub KeepsAll : Gave → List ℕ → WorldState → WorldState → Type 0
KeepsAll Nothing name old new = LogRefused old new name
KeepsAll (A_log log kept link) name old new = new ≡ after_keep_log (with_link link (after_log old name log)) name kept

-- nothing but the last warning is not as in this state
abbrev pub SameButWarned : WorldState → WorldState → Type 0
SameButWarned mid new = new ≡ record mid { warned = new.warned }

-- whatever the world gave is kept, under its name and its number, and all else is as before, but the last warning
abbrev pub Keeps : WorldState → WorldState → List ℕ → Type 0
Keeps old new name = (gave : Gave) × ((mid : WorldState) × KeepsAll gave name old mid × SameButWarned mid new)
