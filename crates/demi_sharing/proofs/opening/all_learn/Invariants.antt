use Rattle.std.proofs.Common.{◌≡◌, None, Some, length}
use Rattle.demi_sharing.specs.Setting.{AreSetOut, IsSetOut}
use Rattle.demi_sharing.proofs.opening.all_learn.Given as goal

abbrev pub invariant-loop-i : goal.invariant-loop-i
invariant-loop-i l = record {
  first : IsSetOut l.demi 0 (Some l.fn.token) l.first;
  others : AreSetOut l.demi 1 None l.others;
  long : length l.others ≡ length l.initial.others;
}
