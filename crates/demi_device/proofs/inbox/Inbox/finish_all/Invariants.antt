use Rattle.std.proofs.Common.{◌≡◌, ℕ, ◌++◌, List, length}
use Rattle.demi_port_core.specs.History.{Apart, ground_of}
use Rattle.demi_port_core.specs.Trails.{StartsWith}
use Rattle.demi_device.specs.Serving.{AllCome, places, trail}
use Rattle.demi_device.proofs.inbox.Inbox.finish_all.Given as goal

abbrev pub invariant-loop-place : goal.invariant-loop-place
invariant-loop-place g l = (before : List (ℕ × g.row.L-Out.Denot)) × record {
  all : l.initial.done.added ≡ before ++ l.done.added;
  room : l.done.room ≡ l.initial.done.room;
  given : l.self.given ≡ l.initial.self.given;
  seat : l.self.seat ≡ record l.initial.self.seat { finished = l.self.seat.finished; trail = l.initial.self.seat.trail ++ trail g.L.Law.told before; owes = l.self.seat.owes };
  finished : places l.self.seat.finished ≡ places l.initial.self.seat.finished ++ places before;
  grows : StartsWith l.self.seat.finished l.initial.self.seat.finished;
  once : Apart l.self.seat.finished;
  comes : AllCome l.self.given g.L.Law.told (g.L.Law.admits l.port.key.base (ground_of l.self.seat.fetched)) l.self.seat.trail (places l.self.seat.finished) l.done.added;
}

abbrev pub decreases-loop-place : goal.decreases-loop-place
decreases-loop-place g l = length l.done.added
