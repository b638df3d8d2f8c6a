use Rattle.std.proofs.Common.{◌≡◌, ◌+◌, ◌≤◌, All, length, reverse, vec_capacity}
use Rattle.demi_heap.specs.Seen.{PassValue as HeapPassValue, new_pass}
use Rattle.demi_pdpix.specs.Making.{AreSamePorts, HaveLeft, IsRoom, whole_of}
use Rattle.demi_pdpix.specs.Seen.{AreNewCallers}
use Rattle.demi_pdpix.proofs.dealing.deal_all.Given as goal

abbrev pub invariant-loop-room : goal.invariant-loop-room
invariant-loop-room g l = record {
  left : HaveLeft (length l.rooms.items) l.ports;
  same : AreSamePorts l.initial.ports l.ports;
  rooms : All (IsRoom (length l.initial.ports.journal.items) (length l.initial.ports.rx.items)) l.rooms.items;
  few : length l.rooms.items ≤ l.count;
  passes : length l.passes.items + l.count ≡ length l.initial.passes.items + length l.rooms.items;
  new : All (λ (p : HeapPassValue). p ≡ new_pass l.heap) l.passes.items;
  room : vec_capacity l.passes ≡ vec_capacity l.initial.passes;
  many : length l.callers.items + length l.rooms.items ≡ l.count;
  caller_room : vec_capacity l.callers ≡ vec_capacity l.initial.callers;
  are : AreNewCallers (whole_of l.heap l.initial.ports l.count) (length l.rooms.items) (reverse l.callers.items);
}

abbrev pub decreases-loop-room : goal.decreases-loop-room
decreases-loop-room g l = length l.rooms.items
