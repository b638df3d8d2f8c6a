-- What a run comes to, outcome by outcome, before it is reported as a status.
use Rattle.std.specs.Prelude.{◌≡◌, ◌⊎◌, ℕ, List, Option, Some, None, false}
use Rattle.demi_core.specs.Outside.{Rose}
use Rattle.demi_core.specs.World.{WorldState, Link, Log}
use Rattle.demi_logq.specs.Items.{tells}
use Rattle.demi_logq.specs.declared.refusal.LogRefusal.{LogRefusal}
use Rattle.demi_logq.specs.declared.refusal.LogRefusal.TheVariants as refusal
use Rattle.demi_server.specs.Logs.{HadRecords, HeadedInPart, IsBad, contents_of, opened_log}
use Rattle.demi_server.specs.declared.outcome.Outcome.{Outcome as SessionOutcome}
use Rattle.demi_spec.specs.Record.{Record}
use Rattle.demi_cli.specs.declared.outcome.Outcome.{Outcome}
use Rattle.demi_cli.specs.declared.outcome.Outcome.TheVariants as outcome
use Rattle.demi_cli.specs.Given.{Gave, Nothing, A_log, KeepsAll, with_link}
use Rattle.demi_cli.specs.Sessions.{SessionOver, SessionEnds, as_outcome}

-- the outcome of a log that is refused at its opening, where it is neither full nor broken
abbrev pub refused_as : LogRefusal → Outcome
refused_as (refusal.BadLog at) = outcome.BadLog at
refused_as refusal.NoMemory = outcome.NoMemory
refused_as other = outcome.LogFault

-- why a log was not opened, and how it then stands
abbrev pub Unopened : Outcome → Log → Log → Type 0
Unopened (outcome.BadLog at) log kept = IsBad log kept at
Unopened outcome.LogFault log kept = Rose log.faults kept.faults × HeadedInPart log kept
Unopened outcome.NoMemory log kept = HeadedInPart log kept
Unopened other log kept = ⊥

-- why the world gave no log, or no link
abbrev pub Refusal : Outcome → ℕ → ℕ → Type 0
Refusal outcome.CannotOpen faults0 faults1 = Rose faults0 faults1
Refusal outcome.NoMemory faults0 faults1 = Unit {0}
Refusal other faults0 faults1 = ⊥

-- why no session was made over a log that had been opened
abbrev pub Unmade : Outcome → Log → Log → Type 0
Unmade (outcome.BadLog at) log kept = tells log.bytes ≡ false
Unmade outcome.LogFault log kept = Rose log.faults kept.faults
Unmade outcome.NoMemory log kept = Unit {0}
Unmade other log kept = ⊥

-- over a log that was opened the world gave no link
pub record Unlinked (o : Outcome) (log kept : Log) (faults0 faults1 : ℕ) : Type 0 where
  pub why : Refusal o faults0 faults1
  pub records : List Record
  pub had : HadRecords log records
  pub same : contents_of kept ≡ contents_of (opened_log log)

-- it gave a link, but no session was made: the link is as it was given
pub record NotMade (o : Outcome) (link kept_link : Link) (log kept : Log) : Type 0 where
  pub as_given : kept_link ≡ link
  pub why : Unmade o log kept
  pub records : List Record
  pub had : HadRecords log records
  pub same : contents_of kept ≡ contents_of (opened_log log)

-- a session ran over the link
pub record RanTo (limit : ℕ) (o : Outcome) (link kept_link : Link) (log kept : Log) (ends : SessionEnds) : Type 0 where
  pub came_to : SessionOutcome
  pub outcome_is : o ≡ as_outcome came_to
  pub ran : SessionOver limit link kept_link log kept came_to ends

-- what a link over a log that was opened comes to: no session, or one with these ends
abbrev pub LinkWithout : Outcome → Option (Link × Link) → Log → Log → ℕ → ℕ → Type 0
LinkWithout o None log kept faults0 faults1 = Refusal o faults0 faults1 × (contents_of kept ≡ contents_of log)
LinkWithout o (Some p) log kept faults0 faults1 = (p.1 ≡ p.0) × Unopened o log kept

pub record LinkNone (o : Outcome) (old new : WorldState) (log kept : Log) (faults0 faults1 : ℕ) : Type 0 where
  pub link : Option (Link × Link)
  pub keeps : new ≡ with_link link old
  pub at : LinkWithout o link log kept faults0 faults1

pub record LinkRan (limit : ℕ) (o : Outcome) (old new : WorldState) (log kept : Log) (ends : SessionEnds) : Type 0 where
  pub link : Link
  pub kept_link : Link
  pub keeps : new ≡ with_link (Some (link, kept_link)) old
  pub at : RanTo limit o link kept_link log kept ends

-- what stands where no session ran
abbrev pub Without : Outcome → Gave → ℕ → ℕ → Type 0
Without o Nothing faults0 faults1 = Refusal o faults0 faults1
Without o (A_log log kept None) faults0 faults1 = Unopened o log kept ⊎ Unlinked o log kept faults0 faults1
Without o (A_log log kept (Some p)) faults0 faults1 = NotMade o p.0 p.1 log kept

-- a run of `pipe` over a log of this name, without a session, and with one
pub record RanWithout (old new : WorldState) (faults0 faults1 : ℕ) (name : List ℕ) (o : Outcome) : Type 0 where
  pub gave : Gave
  pub keeps : KeepsAll gave name old new
  pub at : Without o gave faults0 faults1

pub record RanWith (limit : ℕ) (old new : WorldState) (name : List ℕ) (o : Outcome) (ends : SessionEnds) : Type 0 where
  pub log : Log
  pub kept : Log
  pub link : Link
  pub kept_link : Link
  pub keeps : KeepsAll (A_log log kept (Some (link, kept_link))) name old new
  pub at : RanTo limit o link kept_link log kept ends
