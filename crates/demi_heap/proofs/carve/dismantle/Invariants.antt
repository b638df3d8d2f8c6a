use Rattle.std.proofs.Common.{vec_len}
use Rattle.demi_heap.specs.Laid.{IsLaid}
use Rattle.demi_heap.proofs.carve.dismantle.Given as goal

abbrev pub invariant-loop-carve : goal.invariant-loop-carve
invariant-loop-carve l = IsLaid l.carves.items l.row.items

abbrev pub decreases-loop-carve : goal.decreases-loop-carve
decreases-loop-carve l = vec_len l.carves
