-- What the command `log` leaves, by what the world gave and what it keeps: first what holds whatever the status, then status by status.
use Rattle.std.specs.Prelude.{◌≡◌, ◌≢◌, ◌⊎◌, ℕ, List, ◌++◌}
use Rattle.std.specs.Io.KnownBytes.{append_known}
use Rattle.demi_core.specs.Outside.{Rose}
use Rattle.demi_core.specs.World.{WorldState, Log, after_log, after_keep_log, after_say, LogRefused}
use Rattle.demi_spec.specs.Record.{Record}
use Rattle.demi_cli.specs.declared.outcome.Outcome.{Outcome}
use Rattle.demi_cli.specs.declared.outcome.Outcome.TheVariants as outcome
use Rattle.demi_cli.specs.Lines.{log_lines}
use Rattle.demi_cli.specs.Saying.{SaidFront}
use Rattle.demi_server.specs.Logs.{HadRecords, IsBad, contents_of}
use Rattle.demi_cli.specs.Given.{LogOf, NoLog}

-- the world gave a log of this name and keeps it under the name; it holds what it held, and all else is as before
pub record KeepsOne (old new : WorldState) (name : List ℕ) : Type 0 where
  pub log : Log
  pub kept : Log
  pub keeps : new ≡ after_keep_log (after_log old name log) name kept
  pub same : contents_of kept ≡ contents_of log

-- nothing but what was said and the last warning is not as in this state
abbrev pub SameButTold : WorldState → WorldState → Type 0
SameButTold mid new = new ≡ record mid { said = new.said; warned = new.warned }

-- the world gave no log, or one that it keeps and that holds what it held; all else is as before, but what was said and the last warning
abbrev pub KeepsLog : WorldState → WorldState → List ℕ → Type 0
KeepsLog old new name = (mid : WorldState) × (LogRefused old mid name ⊎ KeepsOne old mid name) × SameButTold mid new

-- 0. The log was a text of records, and exactly their lines were said
pub record SaysLines (old new : WorldState) (name : List ℕ) : Type 0 where
  pub of_log : LogOf old new name
  pub records : List Record
  pub had : HadRecords of_log.log records
  pub said : new.said ≡ append_known old.said (log_lines records)

-- 3. The log was a text of records, and a front of their lines was said
pub record SaysPart (old new : WorldState) (name : List ℕ) : Type 0 where
  pub of_log : LogOf old new name
  pub records : List Record
  pub had : HadRecords of_log.log records
  pub front : List ℕ
  pub rest : List ℕ
  pub parts : log_lines records ≡ front ++ rest
  pub said : new.said ≡ append_known old.said front

-- 8. The world failed to give the log, and gave none
abbrev pub GivesNone : WorldState → WorldState → ℕ → ℕ → Type 0
GivesNone old new faults0 faults1 = Rose faults0 faults1 × NoLog old new

-- why the records of a log were not read, and how it then stands
abbrev pub Unread : Outcome → Log → Log → Type 0
Unread (outcome.BadLog at) log kept = IsBad log kept at
Unread outcome.LogFault log kept = Rose log.faults kept.faults
Unread outcome.NoMemory log kept = Unit {0}
Unread other log kept = ⊥

-- what `log` did, as the program passes it on: what the world keeps, the lines or the front of them that was said, and the count that rose
pub record Listing (status : ℕ) (old new : WorldState) (name : List ℕ) (print_faults0 print_faults1 : ℕ) : Type 0 where
  pub keeps : KeepsLog old new name
  pub lines : status ≡ 0 → SaysLines old new name
  pub part : status ≡ 3 → SaysPart old new name
  pub silent : status ≢ 0 → status ≢ 3 → new.said ≡ old.said
  pub rose : status ≡ 3 → Rose print_faults0 print_faults1

-- Before it is reported: the log was a text of these records
pub record HadThese (old mid : WorldState) (name : List ℕ) : Type 0 where
  pub keeps : KeepsOne old mid name
  pub records : List Record
  pub had : HadRecords keeps.log records

-- what stands at an outcome
abbrev pub Listed : Outcome → WorldState → WorldState → List ℕ → ℕ → ℕ → ℕ → ℕ → Type 0
Listed outcome.CannotOpen old new name faults0 faults1 print0 print1 = LogRefused old new name × Rose faults0 faults1
Listed outcome.NoMemory old new name faults0 faults1 print0 print1 = LogRefused old new name ⊎ KeepsOne old new name
Listed (outcome.BadLog at) old new name faults0 faults1 print0 print1 = (k : KeepsOne old new name) × IsBad k.log k.kept at
Listed outcome.LogFault old new name faults0 faults1 print0 print1 = (k : KeepsOne old new name) × Rose k.log.faults k.kept.faults
Listed outcome.Done old new name faults0 faults1 print0 print1 = (mid : WorldState) × (h : HadThese old mid name) × (new ≡ after_say mid (log_lines h.records))
Listed outcome.PrintFault old new name faults0 faults1 print0 print1 = (mid : WorldState) × (h : HadThese old mid name) × SaidFront (log_lines h.records) mid new × Rose print0 print1
Listed other old new name faults0 faults1 print0 print1 = ⊥
