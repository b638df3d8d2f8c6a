use Rattle.std.proofs.Common.{◌≡◌, ◌-◌, ◌≤◌, vec_len, vec_capacity}
use Rattle.std.specs.Slots.{slots_filled, slots_items, slots_len}
use Rattle.demi_heap.specs.Laid.{IsFront, IsTakenFrom}
use Rattle.demi_heap.proofs.close.join_block.Given as goal

abbrev pub invariant-loop-taken : goal.invariant-loop-taken
invariant-loop-taken l =
    IsTakenFrom (slots_filled l.closed.slots) (slots_len l.closed.slots) (l.end - l.taken)
    × (slots_items l.closed.slots ≡ slots_items l.fn.closed.slots) × (slots_len l.closed.slots ≡ slots_len l.fn.closed.slots) × (l.closed.words ≡ l.fn.closed.words)
    × IsFront l.fn.carve l.bufs.items × (vec_len l.bufs ≡ l.taken) × (l.count ≤ vec_capacity l.bufs)
