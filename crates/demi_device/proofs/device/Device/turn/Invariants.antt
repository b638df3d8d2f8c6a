use Rattle.std.proofs.Common.{◌≡◌, ◌+◌, ◌-◌, length}
use Rattle.demi_device.specs.Turning.{Grows}
use Rattle.demi_device.proofs.device.Device.turn.Given as goal

abbrev pub invariant-loop-rang : goal.invariant-loop-rang
invariant-loop-rang g l = record {
  engine : l.self.engine ≡ l.initial.self.engine;
  port : (l.self.seat.port ≡ l.initial.self.seat.port) × (l.self.seat.passes ≡ l.initial.self.seat.passes);
  grows : Grows (g.E.Engine.finished l.initial.self.engine) (g.E.Engine.finished l.initial.self.engine) l.initial.self.seat l.self.seat;
}

abbrev pub decreases-loop-rang : goal.decreases-loop-rang
decreases-loop-rang g l = length l.self.seat.finished + l.port.tokens.slots - length l.self.seat.fetched
