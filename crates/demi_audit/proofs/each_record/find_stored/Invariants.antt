use Rattle.std.proofs.Common.{◌≡◌, ◌+◌, ℕ, List, length, take}
use Rattle.demi_audit.specs.Checking.{MarksStored}
use Rattle.demi_audit.specs.Hearing.{replies_by}
use Rattle.demi_audit.proofs.each_record.find_stored.Given as goal

abbrev pub invariant-marking : goal.invariant-marking
invariant-marking l = record {
  size : length l.marks.items ≡ l.count + 1;
  marks : (text : List ℕ) → MarksStored l.marks.items (replies_by text (take l.reply-index l.heard));
}
