use Rattle.std.proofs.Common.{◌≡◌, length, vec_capacity}
use Rattle.demi_pdpix.specs.Lanes.{AreNewLanes}
use Rattle.demi_pdpix.proofs.opening.open_each.Given as goal

abbrev pub invariant-loop : goal.invariant-loop
invariant-loop g l = record {
  new : AreNewLanes g.N.Basis.base l.fit.tokens l.fit.callers l.lanes.items l.seats.items;
  lanes : length l.lanes.items ≡ l.counter;
  seats : length l.seats.items ≡ l.counter;
  lane_room : vec_capacity l.lanes ≡ l.count;
  seat_room : vec_capacity l.seats ≡ l.count;
}
