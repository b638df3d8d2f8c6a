-- What the tests say of a whole with two callers, and of the devices around it.
use Rattle.std.specs.Prelude.{◌≡◌, List, [], ◌∷◌, Bool}
use Rattle.demi_device.specs.Turning.{IsOver, WholeDevice}
use Rattle.demi_heap.specs.Seen.{HeapId}
use Rattle.demi_logq.specs.Answers.{LogBasis}
use Rattle.demi_port.specs.Seen.{PortId}
use Rattle.demi_pdpix.specs.declared.seats.Seats.{Seats}
use Rattle.demi_pdpix.specs.Seen.{DemiId, IsNewPair, Pair, as_list}

-- the device is at this port, which has two passes, and its engine stands on what the port does
pub record IsSet {E D T B : Type 0} (base : E → B) (port : PortId B) (v : WholeDevice E D T B) : Type 0 where
  pub seat : v.seat.port ≡ port
  pub passes : v.seat.passes ≡ 2
  pub stands : base v.engine ≡ port.key.base

-- it is so after its run, in which a stop was served, and each operation that was fetched
pub record HasServed {E D T B : Type 0} (base : E → B) (stops : D → Bool) (served : E → List D) (port : PortId B) (v : WholeDevice E D T B) : Type 0 where
  pub set : IsSet base port v
  pub over : IsOver stops (served v.engine) v.seat

-- a new seat for two passes of a port with four tokens, which stands on this
pub record IsFit {D T B : Type 0} (heap : HeapId) (base : B) (port : PortId B) (s : Pair D T B) : Type 0 where
  pub new : IsNewPair heap 2 port s
  pub tokens : port.tokens.slots ≡ 4
  pub stands : port.key.base ≡ base

-- there is one port, and this is such a seat of it
abbrev pub IsOnlyFit : {D T B : Type 0} → HeapId → B → List (PortId B) → List (Pair D T B) → Type 0
IsOnlyFit {D} {T} {B} heap base ports seats = (port : PortId B) × (s : Pair D T B) × (ports ≡ port ∷ []) × (seats ≡ s ∷ []) × IsFit heap base port s

-- such seats of all ports of a whole with a log and one link, on these bases
pub record AreFit {L P O S T B : Type 0} (service : B) (log : HeapId → LogBasis) (d : DemiId B) (s : Seats L P O S T B) : Type 0 where
  pub memory : IsFit d.heap d.heap d.memory s.memory
  pub service_seat : IsFit d.heap service d.service s.service
  pub journal : IsOnlyFit d.heap (log d.heap) d.journal (as_list s.journal)
  pub rx : IsOnlyFit d.heap d.heap d.rx s.rx.items
  pub tx : IsOnlyFit d.heap d.heap d.tx s.tx.items
