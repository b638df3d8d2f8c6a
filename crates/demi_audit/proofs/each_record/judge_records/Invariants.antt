use Rattle.std.proofs.Common.{◌≡◌, ◌+◌, List, length, drop}
use Rattle.demi_spec.specs.Record.{Record}
use Rattle.demi_spec.specs.Reply.{Reply}
use Rattle.demi_audit.specs.Checking.{MarksStored}
use Rattle.demi_audit.specs.Verdict.{records_fault}
use Rattle.demi_audit.proofs.each_record.judge_records.Given as goal

abbrev pub invariant-records : goal.invariant-records
invariant-records l = (replies : List Reply) (rs : List Record) → MarksStored l.marks replies → length rs ≡ l.count → records_fault replies (l.old + 1) (drop l.old rs) ≡ records_fault replies (l.i + 1) (drop l.i rs)
