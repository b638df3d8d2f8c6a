use Rattle.std.proofs.Common.{◌≡◌}
use Rattle.demi_port_core.specs.Trails.{StartsWith}
use Rattle.demi_device.specs.Turning.{Grows}
use Rattle.demi_device.proofs.device.Device.run.Given as goal

abbrev pub invariant-loop : goal.invariant-loop
invariant-loop g l = record {
  goes : g.E.Engine.goes l.initial.self.engine l.self.engine;
  engine : (g.E.Engine.base l.self.engine ≡ g.E.Engine.base l.initial.self.engine) × (g.E.Engine.room l.self.engine ≡ g.E.Engine.room l.initial.self.engine);
  served : StartsWith (g.E.Engine.served l.self.engine) (g.E.Engine.served l.initial.self.engine);
  port : (l.self.seat.port ≡ l.initial.self.seat.port) × (l.self.seat.passes ≡ l.initial.self.seat.passes);
  grows : Grows (g.E.Engine.finished l.initial.self.engine) (g.E.Engine.finished l.self.engine) l.initial.self.seat l.self.seat;
}
