use Rattle.std.proofs.Common.{◌≡◌, replicate}
use Rattle.std.specs.Prelude.{None}
use Rattle.std.specs.Vec.{vec_capacity}
use Rattle.demi_device.proofs.inbox.empty_ring.Given as goal

abbrev pub invariant-loop : goal.invariant-loop
invariant-loop g l = record {
  none : l.ring.items ≡ replicate l.counter None;
  room : vec_capacity l.ring ≡ l.count;
}
