-- How the thread that carries stands between two operations.
use Rattle.std.specs.Prelude.{◌≡◌, length}
use Rattle.demi_heap.specs.Seen.{HeapId}
use Rattle.demi_port.specs.Seen.{PassValue, PortId}
use Rattle.demi_copy.specs.declared.carrier.Carrier.{Carrier}

-- the first pass of the port, with nothing in flight
abbrev pub IsCalm : {D T B : Type 0} → PortId B → PassValue D T B → Type 0
IsCalm port p = (p.port ≡ port) × (p.number ≡ 0) × (length p.submitted ≡ length p.redeemed)

-- both ports stand on the heap, and nothing is in flight
pub record IsHeld (heap : HeapId) (receiving sending : PortId HeapId) (c : Carrier) : Type 0 where
  pub bases : (receiving.key.base ≡ heap) × (sending.key.base ≡ heap)
  pub app : c.app.heap ≡ heap
  pub pops : IsCalm receiving c.pops
  pub pushes : IsCalm sending c.pushes
