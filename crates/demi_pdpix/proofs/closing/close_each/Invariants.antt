use Rattle.std.proofs.Common.{◌≡◌, List, ◌++◌, length, map, reverse, vec_capacity}
use Rattle.demi_pdpix.specs.Closing.{AllEnds, beside}
use Rattle.demi_pdpix.specs.Lanes.{LaneValue}
use Rattle.demi_pdpix.specs.Seen.{Pair}
use Rattle.demi_pdpix.proofs.closing.close_each.Given as goal

abbrev pub invariant-loop-lane : goal.invariant-loop-lane
invariant-loop-lane g l = (gone : List (LaneValue g.row.L-Said.Denot g.row.L-Told.Denot g.row.L-Base.Denot)) × (done : List (Pair g.row.L-Said.Denot g.row.L-Told.Denot g.row.L-Base.Denot)) × record {
  lanes : l.fn.lanes.items ≡ gone ++ reverse l.lanes.items;
  seats : l.fn.seats.items ≡ done ++ reverse l.seats.items;
  left : length l.seats.items ≡ length l.lanes.items;
  passes : l.passes.items ≡ l.initial.passes.items ++ map beside done;
  room : vec_capacity l.passes ≡ vec_capacity l.initial.passes;
  end_room : vec_capacity l.ends ≡ vec_capacity l.initial.ends;
  ends : AllEnds gone done l.ends.items;
}

abbrev pub decreases-loop-lane : goal.decreases-loop-lane
decreases-loop-lane g l = length l.lanes.items
