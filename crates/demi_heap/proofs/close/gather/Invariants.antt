use Rattle.std.proofs.Common.{◌≡◌, ◌+◌, ◌≤◌, [], All, length, sum_by, vec_len}
use Rattle.demi_heap.specs.Seen.{claims, ends, loans, returns}
use Rattle.demi_heap.proofs.close.gather.Given as goal

abbrev pub invariant-loop-pass : goal.invariant-loop-pass
invariant-loop-pass l =
    (l.seat.table_id ≡ l.words.table_id) × (l.seat.me.1 ≡ []) × (1 ≤ l.seat.me.0.passes) × (l.seat.me.0.passes + length l.passes.items ≡ length l.fn.passes.items)
    × (l.seat.me.0.claimed + sum_by claims l.passes.items ≡ sum_by claims l.fn.passes.items) × (l.seat.me.0.ended + sum_by ends l.passes.items ≡ sum_by ends l.fn.passes.items)
    × (l.seat.me.0.loaned + sum_by loans l.passes.items ≡ sum_by loans l.fn.passes.items) × (l.seat.me.0.returned + sum_by returns l.passes.items ≡ sum_by returns l.fn.passes.items)
    × All (λ p. p.heap.table ≡ l.words.table_id) l.passes.items

abbrev pub decreases-loop-pass : goal.decreases-loop-pass
decreases-loop-pass l = vec_len l.passes
