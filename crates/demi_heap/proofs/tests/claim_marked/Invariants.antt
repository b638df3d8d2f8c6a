use Rattle.std.proofs.Common.{◌≡◌, ◌≤◌, All, vec_len, vec_capacity}
use Rattle.demi_heap.proofs.tests.claim_marked.Given as goal

abbrev pub invariant-loop : goal.invariant-loop
invariant-loop l = (l.pass.heap ≡ l.heap) × All (λ b. b.heap ≡ l.heap) l.bufs.items × (vec_len l.bufs ≡ l.counter) × (4096 ≤ vec_capacity l.bufs)
