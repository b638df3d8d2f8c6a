use Rattle.std.proofs.Common.{◌-◌, ◌≤◌, length, vec_len}
use Rattle.demi_heap.specs.Rule.{first_of}
use Rattle.demi_heap.specs.Laid.{IsLaid, HasClasses, counts_shape}
use Rattle.demi_heap.proofs.carve.carve_class.Given as goal

abbrev pub invariant-loop-alloc : goal.invariant-loop-alloc
invariant-loop-alloc l = (first_of (counts_shape l.counts) l.class ≤ length l.row.items) × (length l.row.items ≤ l.end) × IsLaid l.carves.items l.row.items × HasClasses (counts_shape l.counts) l.row.items

abbrev pub decreases-loop-alloc : goal.decreases-loop-alloc
decreases-loop-alloc l = l.end - vec_len l.row
