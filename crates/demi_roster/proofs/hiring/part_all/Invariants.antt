use Rattle.std.proofs.Common.{◌≤◌, length}
use Rattle.std.specs.Vec.{vec_capacity}
use Rattle.demi_roster.proofs.HiringSteps.{Parts}
use Rattle.demi_roster.proofs.hiring.part_all.Given as goal

abbrev pub invariant-loop : goal.invariant-loop
invariant-loop l = Parts l.fn.crew.items l.counter l.crew.items l.callers.items l.ended.items × (length l.fn.crew.items ≤ vec_capacity l.callers) × (length l.fn.crew.items ≤ vec_capacity l.ended)
