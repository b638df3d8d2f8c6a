-- What was read of a transcript, and what it stands for.
use Rattle.std.specs.Prelude.{◌≡◌, ℕ, ◌+◌, ◌≤◌, true, List, length, map, Some, None, Ok, Err}
use Rattle.std.specs.List.{AllByRecursion}
use Rattle.demi_spec.specs.Record.{Record}
use Rattle.demi_served.specs.Talks.{LinkRun, Run}
use Rattle.demi_audit.specs.declared.transcript.Fields.{Fields}
use Rattle.demi_audit.specs.declared.transcript.LinkPlaces.{LinkPlaces}
use Rattle.demi_audit.specs.declared.transcript.LogPart.{LogPart}
use Rattle.demi_audit.specs.declared.transcript.LogPart.TheVariants.{Cut, Bad, Good}
use Rattle.demi_audit.specs.declared.transcript.Transcript.{Transcript}
use Rattle.demi_audit.specs.Entries.{Logs}
use Rattle.demi_audit.specs.Transcript.{part, number_4, number_8, log_records, are_within, behind_log, link_at, transcript}

abbrev pub link_by : List ℕ → LinkPlaces → LinkRun
link_by bytes p = link_at bytes p.input p.input_size p.output p.output_size

-- both parts of a link stand inside a text of this length
pub record IsInside (size : ℕ) (p : LinkPlaces) : Type 0 where
  pub input : p.input + p.input_size ≤ size
  pub output : p.output + p.output_size ≤ size

-- what was found of the log of a transcript
abbrev pub IsLogPart : LogPart → List ℕ → Type 0
IsLogPart Cut bytes = log_records bytes ≡ None
IsLogPart (Bad at) bytes = (log_records bytes ≡ Some (Err at)) × (28 + at ≤ length bytes)
IsLogPart (Good ends) bytes = (rs : List Record) × (log_records bytes ≡ Some (Ok rs)) × Logs (part bytes 28 (number_8 bytes 20)) ends.items rs

-- the fields before the log are these, none of them is bad, and so the log and the links decide
pub record HasFields (bytes : List ℕ) (f : Fields) : Type 0 where
  pub limit : f.limit ≡ number_4 bytes 8
  pub limit_fits : (1 ≤ f.limit) × (f.limit ≤ 1000000)
  pub old : f.old ≡ number_4 bytes 12
  pub old_fits : are_within f.old (log_records bytes) ≡ true
  pub links : f.links ≡ number_4 bytes 16
  pub links_fit : (1 ≤ f.links) × (f.links ≤ 16)
  pub log_size : f.log_size ≡ number_8 bytes 20
  pub rest : transcript bytes ≡ behind_log bytes (log_records bytes)

-- the transcript that was read is that of this run
pub record ReadAs (t : Transcript) (bytes : List ℕ) (run : Run) : Type 0 where
  pub limit : run.limit ≡ t.limit
  pub limit_fits : (1 ≤ t.limit) × (t.limit ≤ 1000000)
  pub old : run.old ≡ t.old
  pub old_fits : run.old ≤ length run.records
  pub log : Logs (part bytes 28 t.log_size) t.ends.items run.records
  pub log_inside : 28 + t.log_size ≤ length bytes
  pub links : run.links ≡ map (link_by bytes) t.links.items
  pub links_fit : (1 ≤ length t.links.items) × (length t.links.items ≤ 16)
  pub inside : AllByRecursion (IsInside (length bytes)) t.links.items
