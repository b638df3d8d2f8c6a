use Rattle.std.proofs.Common.{◌≡◌, ◌+◌, ◌-◌, ◌≤◌, [], ◌∷◌, ◌++◌, length, vec_len, vec_capacity}
use Rattle.demi_buf.specs.Bufs.{carved, superblock_of}
use Rattle.demi_heap.specs.Laid.{EachLies, HasClasses, counts_shape}
use Rattle.demi_heap.proofs.carve.lay_down.Given as goal

abbrev pub invariant-loop : goal.invariant-loop
invariant-loop l = let p = superblock_of l.fn.bufs.items in
    (l.bufs.items ≡ carved p l.fn.class l.count (l.count - l.counter)) × (vec_len l.bufs + l.counter ≡ l.count) × (l.count ≤ vec_capacity l.bufs)
    × (vec_len l.row ≡ length l.fn.row.items + l.counter) × (vec_len l.row + (l.count - l.counter) ≤ vec_capacity l.row)
    × EachLies (l.fn.carves.items ++ record { place = p; count = l.count } ∷ []) l.row.items × HasClasses (counts_shape l.counts) l.row.items
