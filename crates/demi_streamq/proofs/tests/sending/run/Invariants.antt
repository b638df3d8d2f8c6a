use Rattle.std.proofs.Common.{◌≡◌}
use Rattle.demi_streamq.specs.InTests.{IsCalm}
use Rattle.demi_streamq.proofs.tests.sending.run.Given as goal

abbrev pub invariant-asking : goal.invariant-asking
invariant-asking g l = record {
  heap : l.app.heap ≡ l.heap;
  seat : (l.device.seat.port ≡ l.port) × (l.device.seat.passes ≡ l.fn.device.seat.passes);
  engine : l.device.engine.pass.heap ≡ l.fn.device.engine.pass.heap;
  pass : IsCalm l.port l.pass;
}
