use Rattle.std.proofs.Common.{◌-◌, ◌≤◌}
use Rattle.demi_net.proofs.tests.links.asks.Given as goal

abbrev pub invariant-asking : goal.invariant-asking
invariant-asking g l = l.at ≤ 14

abbrev pub decreases-asking : goal.decreases-asking
decreases-asking g l = 14 - l.at
