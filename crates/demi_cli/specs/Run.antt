-- What each exit status of `pipe LOG` says, by what the world gave and what it keeps: first what holds whatever the status, then status by
-- status.
use Rattle.std.specs.Prelude.{Bool, ◌≡◌, ◌≢◌, ℕ, false, true, if◌then◌else◌, ◌⊎◌, List, Option, Some, None}
use Rattle.demi_core.specs.Outside.{Rose}
use Rattle.demi_core.specs.World.{WorldState}
use Rattle.demi_link.specs.declared.phase.Cause.{Cause}
use Rattle.demi_link.specs.declared.phase.Cause.TheVariants as cause
use Rattle.demi_logq.specs.Items.{tells}
use Rattle.demi_port_core.specs.Trails.{StartsWith}
use Rattle.demi_server.specs.Logs.{HadRecords, HeadedInPart, IsBad, contents_of, opened_log}
use Rattle.demi_spec.specs.Record.{Record}
use Rattle.demi_spec.specs.Input.{asked}
use Rattle.demi_cli.specs.Given.{LinkOf, LinkUnused, LogOf, NoLink, NoLog}
use Rattle.demi_cli.specs.Serving.{Finished, Stopped, Took, Says, text_to}
use Rattle.demi_cli.specs.Sessions.{outcome_by}
use Rattle.demi_cli.specs.declared.outcome.Outcome.{Outcome}
use Rattle.demi_cli.specs.declared.outcome.Outcome.TheVariants as outcome
use Rattle.demi_cli.specs.Outcome.{status_of, reported}

-- the outcome that has the status 3 beside the one of this command: what `pipe` writes goes to a link, what others say to the output
abbrev pub fault_elsewhere : Bool → Outcome
fault_elsewhere pipe = if pipe then outcome.PrintFault else outcome.WriteFault

-- the last warning is the text of the status, and the status is one of the nine
abbrev pub Warned : Bool → ℕ → WorldState → WorldState → Type 0
Warned pipe status old new = (o : Outcome) × (status ≡ status_of o) × (o ≢ fault_elsewhere pipe) × (new.warned ≡ (reported o old).warned)

-- 0 and 6. The outcome at an end of the input, by the code of a refused frame
abbrev pub outcome_at_end : Option ℕ → Outcome
outcome_at_end None = outcome.Done
outcome_at_end (Some code) = outcome.Refused code

-- The input was read to an end, all is answered on the records that the log had, and logged; the status and the warning are those of this
-- end
pub record FinishedRun (limit : ℕ) (old new : WorldState) (name : List ℕ) (status : ℕ) : Type 0 where
  pub of_log : LogOf old new name
  pub of_link : LinkOf old new
  pub code : Option ℕ
  pub records : List Record
  pub had : HadRecords of_log.log records
  pub whole : Finished limit (tells of_log.log.bytes) records of_link.link of_link.kept of_log.log of_log.kept code
  pub status_is : status ≡ status_of (outcome_at_end code)
  pub warned_is : new.warned ≡ (reported (outcome_at_end code) old).warned

-- the count of faults of what failed rose: of the link's source, of its sink, of the log
abbrev pub ReadFaulted : WorldState → WorldState → Type 0
ReadFaulted old new = (l : LinkOf old new) × Rose l.link.read_faults l.kept.read_faults

abbrev pub WriteFaulted : WorldState → WorldState → Type 0
WriteFaulted old new = (l : LinkOf old new) × Rose l.link.write_faults l.kept.write_faults

abbrev pub LogFaulted : WorldState → WorldState → List ℕ → Type 0
LogFaulted old new name = (d : LogOf old new name) × Rose d.log.faults d.kept.faults

-- 2 to 5. The status of a link that ended so
abbrev pub status_by : Cause → ℕ
status_by why = status_of (outcome_by why)

-- it stopped on the link
pub record StoppedRun (limit : ℕ) (old new : WorldState) (name : List ℕ) : Type 0 where
  pub of_log : LogOf old new name
  pub of_link : LinkOf old new
  pub records : List Record
  pub had : HadRecords of_log.log records
  pub stopped : Stopped limit (tells of_log.log.bytes) records of_link.link of_link.kept of_log.log of_log.kept

-- where the log tells its bytes, what was written on the link is a front of what the one-thread store on the records that the log had says
-- to all that the bytes taken ask
pub record FrontRun (limit : ℕ) (old new : WorldState) (name : List ℕ) : Type 0 where
  pub of_log : LogOf old new name
  pub records : List Record
  pub had : HadRecords of_log.log records
  pub of_link : LinkOf old new
  pub taken : List ℕ
  pub ended : Bool
  pub said : List ℕ
  pub took : Took of_link.link of_link.kept taken
  pub says : Says of_link.link of_link.kept said
  pub front : tells of_log.log.bytes ≡ true → StartsWith (text_to limit records (asked taken ended)) said

-- It stopped before anything of a link was read: the log, where one was given, is as it was, or was empty and has a front of its header.
abbrev pub Unserved : Cause → WorldState → WorldState → List ℕ → Type 0
Unserved cause.LogFault old new name = LinkUnused old new × ((d : LogOf old new name) × HeadedInPart d.log d.kept)
Unserved cause.NoMemory old new name = LinkUnused old new × (NoLog old new ⊎ ((d : LogOf old new name) × HeadedInPart d.log d.kept))
Unserved other old new name = ⊥

-- whatever the status but 4, 5 and 7: a log was given only if it was a text of records
abbrev pub GoodLog : WorldState → WorldState → List ℕ → Type 0
GoodLog old new name = NoLog old new ⊎ ((d : LogOf old new name) × ((had : List Record) × HadRecords d.log had))

-- 7. The log is no text of records, and is as it was; the warning has its first bad byte, and no link was taken
abbrev pub BadLog : WorldState → WorldState → List ℕ → Type 0
BadLog old new name = NoLink old new × ((d : LogOf old new name) × ((at : ℕ) × IsBad d.log d.kept at × (new.warned ≡ (reported (outcome.BadLog at) old).warned)))

-- A log that does not tell its bytes was a text of records, and no more where it was read again, with the link at hand: it is as it was
-- opened, and the link is as it was given.
pub record BadLater (old new : WorldState) (name : List ℕ) : Type 0 where
  pub of_log : LogOf old new name
  pub of_link : LinkOf old new
  pub untold : tells of_log.log.bytes ≡ false
  pub log_is : contents_of of_log.kept ≡ contents_of (opened_log of_log.log)
  pub link_is : of_link.kept ≡ of_link.link
  pub at : ℕ
  pub warned_is : new.warned ≡ (reported (outcome.BadLog at) old).warned

-- 8. The world failed to give the log, of which nothing was then given, or the link, and the log was a text of records and was opened
abbrev pub CannotOpen : WorldState → WorldState → List ℕ → ℕ → ℕ → Type 0
CannotOpen old new name faults0 faults1 = Rose faults0 faults1 × NoLink old new
    × (NoLog old new ⊎ ((d : LogOf old new name) × ((had : List Record) × HadRecords d.log had × (contents_of d.kept ≡ contents_of (opened_log d.log)))))
