use Rattle.std.proofs.Common.{◌≡◌, ◌≤◌}
use Rattle.demi_heap.proofs.tests.claim_all.Given as goal

abbrev pub invariant-loop : goal.invariant-loop
invariant-loop l = (l.pass.heap ≡ l.heap) × (l.claimed ≤ l.counter)
