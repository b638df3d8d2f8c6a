use Rattle.std.proofs.Common.{◌≡◌, ◌≤◌}
use Rattle.demi_bench.specs.Queueing.{GoesOn, StaysEven}
use Rattle.demi_bench.proofs.memq_loop.fill.Given as goal

abbrev pub invariant-loop-i : goal.invariant-loop-i
invariant-loop-i g l = record {
  app : l.app.heap ≡ l.heap;
  even : StaysEven l.fn.pass l.pass;
  device : GoesOn l.fn.device l.device;
  many : l.taken ≤ l.i;
}
