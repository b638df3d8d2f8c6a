-- What the command `check` leaves: first what an audit says, then what holds whatever the status, then status by status.
use Rattle.std.specs.Prelude.{◌≡◌, ◌≢◌, ◌⊎◌, ℕ, List, ◌++◌, Option, Some, None, Err, IfSome}
use Rattle.std.specs.Io.KnownBytes.{append_known}
use Rattle.demi_core.specs.Outside.{Rose}
use Rattle.demi_core.specs.World.{WorldState, Log, after_say, LogRefused}
use Rattle.demi_audit.specs.Checking.{HasFault, Counts}
use Rattle.demi_audit.specs.Transcript.{transcript}
use Rattle.demi_audit.specs.Verdict.{ReplyAt, EntryAt}
use Rattle.demi_cli.specs.declared.outcome.Outcome.{Outcome}
use Rattle.demi_cli.specs.declared.outcome.Outcome.TheVariants as outcome
use Rattle.demi_cli.specs.Given.{LogOf, NoLog}
use Rattle.demi_cli.specs.Lines.{verdict_line}
use Rattle.demi_cli.specs.Listing.{GivesNone, KeepsLog, KeepsOne}
use Rattle.demi_cli.specs.Outcome.{reported}
use Rattle.demi_cli.specs.Run.{LogFaulted}
use Rattle.demi_cli.specs.Saying.{SaidFront}

-- a text is a transcript in which no fault is found, with these counts
abbrev pub Consistent : ℕ → ℕ → ℕ → List ℕ → Type 0
Consistent links replies records text = HasFault text None × Counts text links replies records

-- the outcome names the first bad byte of a text that is no transcript, or the first fault of a transcript
abbrev pub Judged : Outcome → List ℕ → Type 0
Judged (outcome.BadLog at) text = transcript text ≡ Err at
Judged (outcome.BadReply link index) text = HasFault text (Some (ReplyAt link index))
Judged (outcome.BadEntry version) text = HasFault text (Some (EntryAt version))
Judged outcome.NoMemory text = Unit {0}
Judged other text = ⊥

-- why a disk is not that of a consistent transcript, or was not audited: where it tells its bytes, the outcome is theirs
abbrev pub Refuted : Outcome → Log → Log → Type 0
Refuted outcome.LogFault log kept = Rose log.faults kept.faults
Refuted (outcome.BadLog at) log kept = IfSome log.bytes (Judged (outcome.BadLog at))
Refuted (outcome.BadReply link index) log kept = IfSome log.bytes (Judged (outcome.BadReply link index))
Refuted (outcome.BadEntry version) log kept = IfSome log.bytes (Judged (outcome.BadEntry version))
Refuted outcome.NoMemory log kept = Unit {0}
Refuted other log kept = ⊥

-- 0. Exactly the line of a consistent transcript was said, and where the disk tells its bytes they are one, with these counts
pub record SaysVerdict (old new : WorldState) (name : List ℕ) : Type 0 where
  pub of_log : LogOf old new name
  pub links : ℕ
  pub replies : ℕ
  pub records : ℕ
  pub consistent : IfSome of_log.log.bytes (Consistent links replies records)
  pub said : new.said ≡ append_known old.said (verdict_line links replies records)

-- 3. A front of that line was said
pub record SaysVerdictPart (old new : WorldState) (name : List ℕ) : Type 0 where
  pub of_log : LogOf old new name
  pub links : ℕ
  pub replies : ℕ
  pub records : ℕ
  pub consistent : IfSome of_log.log.bytes (Consistent links replies records)
  pub front : List ℕ
  pub rest : List ℕ
  pub parts : verdict_line links replies records ≡ front ++ rest
  pub said : new.said ≡ append_known old.said front

-- 7. The warning has the first bad byte of what is no transcript
pub record BadTranscript (old new : WorldState) (name : List ℕ) : Type 0 where
  pub of_log : LogOf old new name
  pub at : ℕ
  pub bad : IfSome of_log.log.bytes (λ text. transcript text ≡ Err at)
  pub warned_is : new.warned ≡ (reported (outcome.BadLog at) old).warned

-- the outcomes of an inconsistent transcript
abbrev pub IsInconsistent : Outcome → Type 0
IsInconsistent (outcome.BadReply link index) = Unit {0}
IsInconsistent (outcome.BadEntry version) = Unit {0}
IsInconsistent other = ⊥

-- 9. The warning has the first fault of a transcript that is inconsistent
pub record Inconsistent (old new : WorldState) (name : List ℕ) : Type 0 where
  pub of_log : LogOf old new name
  pub fault : Outcome
  pub is_fault : IsInconsistent fault
  pub found : IfSome of_log.log.bytes (Judged fault)
  pub warned_is : new.warned ≡ (reported fault old).warned

-- what `check` did, as the program passes it on
pub record Checking (status : ℕ) (old new : WorldState) (name : List ℕ) (print_faults0 print_faults1 : ℕ) : Type 0 where
  pub keeps : KeepsLog old new name
  pub never : (status ≢ 2) × (status ≢ 6)
  pub verdict : status ≡ 0 → SaysVerdict old new name
  pub part : status ≡ 3 → SaysVerdictPart old new name
  pub rose : status ≡ 3 → Rose print_faults0 print_faults1
  pub silent : status ≢ 0 → status ≢ 3 → new.said ≡ old.said
  pub bad : status ≡ 7 → BadTranscript old new name
  pub inconsistent : status ≡ 9 → Inconsistent old new name

-- Before it is reported: a disk was audited, and where it tells its bytes they are a consistent transcript, with these counts
pub record WasConsistent (old mid : WorldState) (name : List ℕ) : Type 0 where
  pub keeps : KeepsOne old mid name
  pub links : ℕ
  pub replies : ℕ
  pub records : ℕ
  pub consistent : IfSome keeps.log.bytes (Consistent links replies records)

-- what stands at an outcome
abbrev pub Checked : Outcome → WorldState → WorldState → List ℕ → ℕ → ℕ → ℕ → ℕ → Type 0
Checked outcome.CannotOpen old new name faults0 faults1 print0 print1 = LogRefused old new name × Rose faults0 faults1
Checked outcome.NoMemory old new name faults0 faults1 print0 print1 = LogRefused old new name ⊎ KeepsOne old new name
Checked outcome.LogFault old new name faults0 faults1 print0 print1 = (k : KeepsOne old new name) × Rose k.log.faults k.kept.faults
Checked (outcome.BadLog at) old new name faults0 faults1 print0 print1 = (k : KeepsOne old new name) × IfSome k.log.bytes (Judged (outcome.BadLog at))
Checked (outcome.BadReply link index) old new name faults0 faults1 print0 print1 = (k : KeepsOne old new name) × IfSome k.log.bytes (Judged (outcome.BadReply link index))
Checked (outcome.BadEntry version) old new name faults0 faults1 print0 print1 = (k : KeepsOne old new name) × IfSome k.log.bytes (Judged (outcome.BadEntry version))
Checked outcome.Done old new name faults0 faults1 print0 print1 = (mid : WorldState) × (h : WasConsistent old mid name) × (new ≡ after_say mid (verdict_line h.links h.replies h.records))
Checked outcome.PrintFault old new name faults0 faults1 print0 print1 = (mid : WorldState) × (h : WasConsistent old mid name) × SaidFront (verdict_line h.links h.replies h.records) mid new × Rose print0 print1
Checked other old new name faults0 faults1 print0 print1 = ⊥
