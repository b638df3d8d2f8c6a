use Rattle.std.proofs.Common.{◌≡◌, ◌≤◌, List, ◌++◌, vec_len}
use Rattle.std.specs.Slots.{slots_filled, slots_items, slots_len}
use Rattle.demi_heap_core.specs.declared.shape.Superblock.{Superblock}
use Rattle.demi_heap_core.specs.Owner.{total}
use Rattle.demi_heap.specs.Laid.{IsTakenFrom, places}
use Rattle.demi_heap.proofs.close.settle.Given as goal

abbrev pub invariant-loop-carve : goal.invariant-loop-carve
invariant-loop-carve l =
    IsTakenFrom (slots_filled l.closed.slots) (slots_len l.closed.slots) l.end
    × (slots_items l.closed.slots ≡ slots_items l.fn.closed.slots) × (slots_len l.closed.slots ≡ slots_len l.fn.closed.slots) × (l.closed.words ≡ l.fn.closed.words)
    × ((done : List Superblock) × (l.fn.carves.items ≡ l.carves.items ++ done)) × (total places l.carves.items ≡ l.end) × (l.end ≤ l.slots)

abbrev pub decreases-loop-carve : goal.decreases-loop-carve
decreases-loop-carve l = vec_len l.carves
