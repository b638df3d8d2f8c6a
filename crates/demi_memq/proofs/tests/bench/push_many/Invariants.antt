use Rattle.std.proofs.Common.{◌≡◌, ◌+◌, length}
use Rattle.demi_memq.proofs.tests.bench.push_many.Given as goal

abbrev pub invariant-loop : goal.invariant-loop
invariant-loop g l = record {
  app : l.app.heap ≡ l.heap;
  port : l.pass.port ≡ l.fn.pass.port;
  number : l.pass.number ≡ l.fn.pass.number;
  even : length l.pass.submitted + length l.fn.pass.redeemed ≡ length l.fn.pass.submitted + length l.pass.redeemed;
  seat : l.device.seat.port ≡ l.fn.device.seat.port;
  passes : l.device.seat.passes ≡ l.fn.device.seat.passes;
  heap : l.device.engine.pass.heap ≡ l.fn.device.engine.pass.heap;
}
