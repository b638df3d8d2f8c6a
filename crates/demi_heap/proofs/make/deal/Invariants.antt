use Rattle.std.proofs.Common.{◌≡◌, ◌+◌, ◌≤◌, [], All, length, vec_len, vec_capacity}
use Rattle.demi_heap.specs.Seen.{new_pass, IsNewView}
use Rattle.demi_heap.proofs.make.deal.Given as goal

abbrev pub invariant-loop : goal.invariant-loop
invariant-loop l =
    (l.seat.table_id ≡ l.words.table_id) × (l.seat.me.1 ≡ []) × IsNewView l.words.key l.seat.me.0 × (l.seat.me.0.passes + l.counter ≡ l.count + 1)
    × (length l.passes.items + 1 ≡ l.counter) × (vec_len l.passes + 1 ≡ l.counter) × (l.count ≤ vec_capacity l.passes) × All (λ p. p ≡ new_pass record { table = l.words.table_id; shape = l.words.key }) l.passes.items
