use Rattle.std.proofs.Common.{◌≡◌, ◌+◌, ◌≤◌, [], ◌∷◌, ◌++◌, length, vec_len, vec_capacity}
use Rattle.demi_heap_core.specs.Owner.{total}
use Rattle.demi_heap.specs.Laid.{EachLies, IsFront, places}
use Rattle.demi_heap.proofs.carve.take_back.Given as goal

abbrev pub invariant-loop : goal.invariant-loop
invariant-loop l =
    (length l.row.items + l.counter ≡ total places l.carves.items + l.count) × EachLies (l.carves.items ++ l.fn.carve ∷ []) l.row.items
    × IsFront l.fn.carve l.bufs.items × (vec_len l.bufs ≡ l.counter) × (l.count ≤ vec_capacity l.bufs)
