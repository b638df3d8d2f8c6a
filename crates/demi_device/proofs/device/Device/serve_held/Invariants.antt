use Rattle.std.proofs.Common.{◌≡◌, ◌-◌, length}
use Rattle.demi_port_core.specs.Trails.{StartsWith}
use Rattle.demi_device.specs.Turning.{Grows}
use Rattle.demi_device.proofs.device.Device.serve_held.Given as goal

abbrev pub invariant-loop : goal.invariant-loop
invariant-loop g l = record {
  goes : g.E.Engine.goes l.initial.self.engine l.self.engine;
  engine : (g.E.Engine.base l.self.engine ≡ g.E.Engine.base l.initial.self.engine) × (g.E.Engine.room l.self.engine ≡ g.E.Engine.room l.initial.self.engine);
  seat : l.self.seat ≡ record l.initial.self.seat { finished = l.self.seat.finished; trail = l.self.seat.trail; owes = l.self.seat.owes };
  grows : Grows (g.E.Engine.finished l.initial.self.engine) (g.E.Engine.finished l.self.engine) l.initial.self.seat l.self.seat;
  served : StartsWith (g.E.Engine.served l.self.engine) (g.E.Engine.served l.initial.self.engine);
  none : length (g.E.Engine.served l.self.engine) ≡ length (g.E.Engine.served l.initial.self.engine) → l.self ≡ l.initial.self;
}

abbrev pub decreases-loop : goal.decreases-loop
decreases-loop g l = length l.self.seat.fetched - length (g.E.Engine.served l.self.engine)
