use Rattle.std.proofs.Common.{◌≡◌}
use Rattle.demi_bench.proofs.heap_loop.hold.Given as goal

abbrev pub invariant-loop : goal.invariant-loop
invariant-loop l = l.pass.heap ≡ l.heap
