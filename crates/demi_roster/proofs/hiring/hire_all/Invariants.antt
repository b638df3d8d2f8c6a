use Rattle.std.proofs.Common.{◌≤◌, length}
use Rattle.std.specs.Vec.{vec_capacity}
use Rattle.demi_roster.proofs.HiringSteps.{Hires}
use Rattle.demi_roster.proofs.hiring.hire_all.Given as goal

abbrev pub invariant-loop-number : goal.invariant-loop-number
invariant-loop-number l = Hires l.fn.links l.fn.demi l.fn.opening l.fn.callers.items l.number l.opening l.callers.items l.benches.items l.crew.items × (length l.fn.callers.items ≤ vec_capacity l.crew)
