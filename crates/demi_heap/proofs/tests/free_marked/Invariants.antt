use Rattle.std.proofs.Common.{◌≡◌, All, vec_len}
use Rattle.demi_heap.proofs.tests.free_marked.Given as goal

abbrev pub invariant-loop-buf : goal.invariant-loop-buf
invariant-loop-buf l = (l.pass.heap ≡ l.heap) × All (λ b. b.heap ≡ l.heap) l.bufs.items

abbrev pub decreases-loop-buf : goal.decreases-loop-buf
decreases-loop-buf l = vec_len l.bufs
