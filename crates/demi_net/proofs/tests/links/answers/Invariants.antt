use Rattle.std.proofs.Common.{◌-◌, ◌≤◌}
use Rattle.demi_net.proofs.tests.links.answers.Given as goal

abbrev pub invariant-answering : goal.invariant-answering
invariant-answering g l = l.at ≤ 23

abbrev pub decreases-answering : goal.decreases-answering
decreases-answering g l = 23 - l.at
