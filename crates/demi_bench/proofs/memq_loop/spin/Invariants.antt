use Rattle.std.proofs.Common.{◌≡◌, ◌≤◌}
use Rattle.demi_bench.specs.Queueing.{GoesOn, StaysEven}
use Rattle.demi_bench.proofs.memq_loop.spin.Given as goal

abbrev pub invariant-loop : goal.invariant-loop
invariant-loop g l = record {
  app : l.app.heap ≡ l.heap;
  even : StaysEven l.fn.pass l.pass;
  device : GoesOn l.fn.device l.device;
  many : l.done ≤ l.counter;
}
