-- How a log stands before a session and after it.
use Rattle.std.specs.Prelude.{◌≡◌, ◌≢◌, ◌⊎◌, ℕ, ◌+◌, ◌<◌, ◌==◌, if◌then◌else◌, List, [], ◌++◌, length, take, drop, Option, IfSome, Ok, Err}
use Rattle.std.specs.Io.KnownBytes.{append_known}
use Rattle.demi_core.specs.Outside.{Rose}
use Rattle.demi_core.specs.World.{Log}
use Rattle.demi_logq.specs.declared.refusal.LogRefusal.{LogRefusal}
use Rattle.demi_logq.specs.declared.refusal.LogRefusal.TheVariants as refusal
use Rattle.demi_spec.specs.LogText.{entry, header}
use Rattle.demi_spec.specs.Record.{Record, entries_of, log_of, payload, records}
use Rattle.demi_server.specs.declared.outcome.Outcome.{Outcome}
use Rattle.demi_server.specs.declared.outcome.Outcome.TheVariants as outcome

-- a disk as what it tells
abbrev pub log_at : {D : Type 0} → (D → Option (List ℕ)) → (D → ℕ) → (D → ℕ) → D → Log
log_at bytes held faults disk = record { held = held disk; bytes = bytes disk; faults = faults disk }

-- a log that was opened: an empty one has its header now
abbrev pub opened_log : Log → Log
opened_log log = record log { bytes = if log.held == 0 then append_known log.bytes header else log.bytes; held = if log.held == 0 then 8 else log.held }

-- A log was a text of these records. Where it does not tell its bytes, its length alone is bound.
pub record HadRecords (log : Log) (old : List Record) : Type 0 where
  pub read : IfSome log.bytes (λ b. records b ≡ Ok old)
  pub size : ((log.held ≡ 0) × (old ≡ [])) ⊎ (log.held ≡ length (log_of old))

-- what a disk holds: its bytes, where it tells them, and how many they are
pub record Contents : Type 0 where
  pub bytes : Option (List ℕ)
  pub held : ℕ

abbrev pub contents : Option (List ℕ) → ℕ → Contents
contents bytes held = record { bytes = bytes; held = held }

abbrev pub contents_of : Log → Contents
contents_of log = contents log.bytes log.held

-- the same with this text behind
abbrev pub grown : Contents → List ℕ → Contents
grown c text = record { bytes = append_known c.bytes text; held = c.held + length text }

-- A log that was opened or not: it is as it was, or it was empty and has a front of its header.
abbrev pub HeadedInPart : Log → Log → Type 0
HeadedInPart log kept = (contents_of kept ≡ contents_of log) ⊎ ((log.held ≡ 0) × ((k : ℕ) × (contents_of kept ≡ grown (contents_of log) (take k header))))

-- the log is no text of records, and this is its first bad byte, where it tells its bytes; it is not empty, and is as it was
abbrev pub IsBad : Log → Log → ℕ → Type 0
IsBad log kept at = IfSome log.bytes (λ b. records b ≡ Err at) × (log.held ≢ 0) × (contents_of kept ≡ contents_of log)

-- why a session was not made, and how its log then stands
abbrev pub Unmade : Outcome → Log → Log → Type 0
Unmade (outcome.BadLog at) log kept = IsBad log kept at
Unmade outcome.NoMemory log kept = HeadedInPart log kept
Unmade outcome.LogFault log kept = Rose log.faults kept.faults × HeadedInPart log kept
Unmade other log kept = ⊥

-- the outcome of a log that is refused at its opening, where it is neither full nor broken
abbrev pub refused_as : LogRefusal → Outcome
refused_as (refusal.BadLog at) = outcome.BadLog at
refused_as refusal.NoMemory = outcome.NoMemory
refused_as other = outcome.LogFault

-- nothing, or a proper front of the entry of a record
abbrev pub IsEntryFront : List ℕ → Type 0
IsEntryFront torn = (torn ≡ []) ⊎ ((r : Record) × (k : ℕ) × (k < length (entry (payload r))) × (torn ≡ take k (entry (payload r))))

-- A log that told its bytes had these records at first and has those at last: behind its text, or its header, come the entries of the
-- new ones, and of one more put at most a proper front of its entry, and that only where its count of faults rose.
pub record LogGrew (log kept : Log) (old new : List Record) : Type 0 where
  pub torn : List ℕ
  pub grew : IfSome log.bytes (λ b. kept.bytes ≡ append_known (opened_log log).bytes (entries_of (drop (length old) new) ++ torn))
  pub front : IsEntryFront torn
  pub rose : (torn ≡ []) ⊎ Rose log.faults kept.faults
