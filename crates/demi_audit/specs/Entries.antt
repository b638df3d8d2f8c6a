-- How the log part of a text is found and looked at in memory.
use Rattle.std.specs.Prelude.{◌≡◌, ℕ, ◌+◌, List, map, take, drop}
use Rattle.std.specs.List.{AllByRecursion}
use Rattle.demi_spec.specs.Record.{Record, IsRecord, IsRecordLog, payload}
use Rattle.demi_logq.specs.Logged.{ends_from}
use Rattle.demi_audit.specs.declared.entries.Parts.{Parts}

-- the record whose parts these are
abbrev pub record_by : List ℕ → Parts → Record
record_by bytes p = record { link = p.link; index = p.index; key = take p.key (drop 7 bytes); value = drop (7 + p.key) bytes }

-- These are the records of a log text, whose entries end there.
pub record Logs (text : List ℕ) (ends : List ℕ) (records : List Record) : Type 0 where
  pub places : ends ≡ ends_from 8 (map payload records)
  pub fits : AllByRecursion IsRecord records
  pub text_is : IsRecordLog text records

-- the first payloads, so many, are those of records
pub record ReadTo (count : ℕ) (payloads : List (List ℕ)) : Type 0 where
  pub records : List Record
  pub same : take count payloads ≡ map payload records
  pub fits : AllByRecursion IsRecord records
