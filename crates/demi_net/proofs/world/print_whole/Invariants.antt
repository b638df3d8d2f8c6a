use Rattle.std.proofs.Common.{◌-◌, ◌≤◌, length}
use Rattle.demi_net.proofs.world.print_whole.Given as goal

abbrev pub invariant-printing : goal.invariant-printing
invariant-printing l = l.at ≤ length l.text

abbrev pub decreases-printing : goal.decreases-printing
decreases-printing l = length l.text - l.at
