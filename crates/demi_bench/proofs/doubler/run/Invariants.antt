use Rattle.std.proofs.Common.{◌≡◌, ◌+◌, ◌≤◌, length}
use Rattle.demi_bench.proofs.doubler.run.Given as goal

abbrev pub invariant-loop : goal.invariant-loop
invariant-loop g l = record {
  port : (l.device.seat.port ≡ l.initial.device.seat.port) × (l.device.seat.passes ≡ l.initial.device.seat.passes);
  served : l.served + length l.initial.device.engine.history.value ≤ length l.device.engine.history.value;
}
