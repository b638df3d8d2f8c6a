-- What a copy has before its run and after it.
use Rattle.std.specs.Prelude.{◌≡◌, ◌⊎◌, [], List, Bool}
use Rattle.demi_device.specs.Serving.{HasStop}
use Rattle.demi_heap.specs.Seen.{HeapId}
use Rattle.demi_port.specs.Seen.{DeviceValue, IsNewSeat, PortId}
use Rattle.demi_copy.specs.declared.gear.Gear.{Gear}
use Rattle.demi_copy.specs.Calm.{IsHeld}

-- the gear of two ports that nothing was asked of yet
pub record IsReady {S T : Type 0} (heap : HeapId) (receiving sending : PortId HeapId) (g : Gear S T) : Type 0 where
  pub held : IsHeld heap receiving sending g.carrier
  pub heaps : (g.reads.heap ≡ heap) × (g.writes.heap ≡ heap)
  pub seat_in : IsNewSeat receiving 1 g.seat_in
  pub seat_out : IsNewSeat sending 1 g.seat_out
  pub tokens : (receiving.tokens.slots ≡ 4) × (sending.tokens.slots ≡ 4)

-- the gear at the end, where nothing is in flight
pub record IsHome {S T : Type 0} (heap : HeapId) (receiving sending : PortId HeapId) (g : Gear S T) : Type 0 where
  pub held : IsHeld heap receiving sending g.carrier
  pub heaps : (g.reads.heap ≡ heap) × (g.writes.heap ≡ heap)
  pub seat_in : (g.seat_in.port ≡ receiving) × (g.seat_in.passes ≡ 1)
  pub seat_out : (g.seat_out.port ≡ sending) × (g.seat_out.passes ≡ 1)

-- one side's engine and seat, which may be taken apart: a stop was served, or nothing
pub record IsSide {D T : Type 0} (heap : HeapId) (port : PortId HeapId) (stops : D → Bool) (served : List D) (of : HeapId) (seat : DeviceValue D T HeapId) : Type 0 where
  pub heap_is : of ≡ heap
  pub seat_is : (seat.port ≡ port) × (seat.passes ≡ 1)
  pub over : HasStop stops served ⊎ (served ≡ [])
