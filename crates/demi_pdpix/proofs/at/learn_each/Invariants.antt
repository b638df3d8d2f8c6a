use Rattle.std.proofs.Common.{◌≡◌}
use Rattle.demi_pdpix.proofs.Learning.{learnt_to, noted_to}
use Rattle.demi_pdpix.proofs.at.learn_each.Given as goal

abbrev pub invariant-loop-k : goal.invariant-loop-k
invariant-loop-k g l = record {
  passes : l.passes.items ≡ learnt_to l.k l.initial.passes.items l.initial.from.items;
  from : l.from.items ≡ noted_to l.k l.initial.from.items;
}
