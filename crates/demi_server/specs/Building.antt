-- What devices are made of, and what of them comes back.
use Rattle.std.specs.Prelude.{◌≡◌, ◌⊎◌, ℕ, ◌<◌, ◌≤◌, List, [], ◌∷◌, ◌++◌, Bool, length, map, slice_index_or, vec_capacity}
use Rattle.demi_heap.specs.Seen.{HeapId}
use Rattle.demi_port.specs.Seen.{PortId}
use Rattle.demi_device.specs.Serving.{HasStop}
use Rattle.demi_device.specs.Turning.{IsFresh, WholeDevice}
use Rattle.demi_memq.specs.Engine.{MemValue}
use Rattle.demi_memq.specs.declared.op.MemOp.{MemOp}
use Rattle.demi_streamq.specs.RxGoing.{RxValue}
use Rattle.demi_streamq.specs.TxGoing.{TxValue}
use Rattle.demi_streamq.specs.declared.rx_op.RxOp.{RxOp}
use Rattle.demi_streamq.specs.declared.rx_told.RxTold.{RxTold}
use Rattle.demi_streamq.specs.declared.tx_op.TxOp.{TxOp}
use Rattle.demi_pdpix.specs.Seen.{Pair, RxPair, TxPair}
use Rattle.demi_streamq.specs.Receiving.{is_stop as stops_reading}
use Rattle.demi_streamq.specs.Sending.{is_stop as stops_writing}
use Rattle.demi_work.specs.declared.both.Both.{Both}
use Rattle.demi_server.specs.declared.parts.LinkParts.{LinkParts}
use Rattle.demi_server.specs.declared.home.Home.{Home}

-- the device of the memory queues, of a receiving side, and of a sending side
abbrev pub MemDevice : Type 0
MemDevice = WholeDevice MemValue MemOp (Unit {0}) HeapId

abbrev pub RxDevice : Type 0 → Type 0
RxDevice I = WholeDevice (RxValue I) RxOp RxTold HeapId

abbrev pub TxDevice : Type 0 → Type 0
TxDevice O = WholeDevice (TxValue O) TxOp ℕ HeapId

-- the two devices of a link
abbrev pub LinkDevices : Type 0 → Type 0 → Type 0
LinkDevices I O = Both (RxDevice I) (TxDevice O)

-- A seat that has done nothing, of this port, with a pass of this heap. The port stands on the heap, and has so many tokens.
pub record IsSeated {D T : Type 0} (heap : HeapId) (port : PortId HeapId) (tokens : ℕ) (s : Pair D T HeapId) : Type 0 where
  pub base : port.key.base ≡ heap
  pub slots : port.tokens.slots ≡ tokens
  pub at : s.0.port ≡ port
  pub fresh : IsFresh s.0
  pub pass : s.1.heap ≡ heap

-- so is each of these seats, of the port at its place
abbrev pub AreSeated : {D T : Type 0} → HeapId → List (PortId HeapId) → ℕ → List (Pair D T HeapId) → Type 0
AreSeated {D} {T} heap ports tokens seats = (k : ℕ) (x : PortId HeapId) (s : Pair D T HeapId) → k < length seats → IsSeated heap (slice_index_or ports k x) tokens (slice_index_or seats k s)

-- Each operation that the device fetched was served, and a stop was served, or nothing.
pub record IsSpent {E D T B : Type 0} (stops : D → Bool) (served : E → List D) (d : WholeDevice E D T B) : Type 0 where
  pub all : length d.seat.fetched ≡ length (served d.engine)
  pub over : HasStop stops (served d.engine) ⊎ (served d.engine ≡ [])

-- the new devices of these parts
abbrev pub new_memory : Pair MemOp (Unit {0}) HeapId → ℕ → MemDevice
new_memory s room = record { engine = record { pass = s.1; room = room; served = []; finished = []; waits = [] }; seat = s.0 }

abbrev pub new_rx : {I : Type 0} → I → RxPair → RxDevice I
new_rx input s = record { engine = record { source = input; pass = s.1; served = []; finished = [] }; seat = s.0 }

abbrev pub new_tx : {O : Type 0} → O → TxPair → TxDevice O
new_tx output s = record { engine = record { sink = output; pass = s.1; served = []; finished = [] }; seat = s.0 }

-- the source and the sink of a link's devices, and the seats with their passes
abbrev pub ends_of : {I O : Type 0} → LinkDevices I O → I × O
ends_of d = (d.first.engine.source, d.second.engine.sink)

abbrev pub rx_of : {I O : Type 0} → LinkDevices I O → RxPair
rx_of d = (d.first.seat, d.first.engine.pass)

abbrev pub tx_of : {I O : Type 0} → LinkDevices I O → TxPair
tx_of d = (d.second.seat, d.second.engine.pass)

-- both devices of a link are spent
abbrev pub IsLinkSpent : {I O : Type 0} → LinkDevices I O → Type 0
IsLinkSpent d = IsSpent stops_reading (λ e. e.served) d.first × IsSpent stops_writing (λ e. e.served) d.second

-- what a link's devices are made of
abbrev pub link_parts_of : {I O : Type 0} → LinkDevices I O → LinkParts I O
link_parts_of d = record { input = d.first.engine.source; output = d.second.engine.sink; rx = rx_of d; tx = tx_of d }

-- nothing was served by the devices of a link
abbrev pub IsLinkNew : {I O : Type 0} → LinkDevices I O → Type 0
IsLinkNew d = (d.first.engine.served ≡ []) × (d.first.engine.finished ≡ []) × (d.second.engine.served ≡ []) × (d.second.engine.finished ≡ [])

-- the new list is the old one, and behind it come what these links' devices are made of
pub record HasMore {I O : Type 0} (old new : Home I O) (ds : List (LinkDevices I O)) : Type 0 where
  pub links : new.links.items ≡ old.links.items ++ map ends_of ds
  pub rx : new.rx.items ≡ old.rx.items ++ map rx_of ds
  pub tx : new.tx.items ≡ old.tx.items ++ map tx_of ds

-- The same links and seats are at home.
pub record IsSameHome {I O : Type 0} (old new : Home I O) : Type 0 where
  pub links : new.links.items ≡ old.links.items
  pub rx : new.rx.items ≡ old.rx.items
  pub tx : new.tx.items ≡ old.tx.items

-- nothing is at home
pub record IsEmptyHome {I O : Type 0} (h : Home I O) : Type 0 where
  pub links : h.links.items ≡ []
  pub rx : h.rx.items ≡ []
  pub tx : h.tx.items ≡ []

-- there are two seats for each link
pub record IsEven {I O : Type 0} (h : Home I O) : Type 0 where
  pub rx : length h.rx.items ≡ length h.links.items
  pub tx : length h.tx.items ≡ length h.links.items

-- there is room for so many links
pub record HasRoom {I O : Type 0} (n : ℕ) (h : Home I O) : Type 0 where
  pub links : n ≤ vec_capacity h.links
  pub rx : n ≤ vec_capacity h.rx
  pub tx : n ≤ vec_capacity h.tx

-- the room is as it was
pub record IsAsRoomy {I O : Type 0} (old new : Home I O) : Type 0 where
  pub links : vec_capacity new.links ≡ vec_capacity old.links
  pub rx : vec_capacity new.rx ≡ vec_capacity old.rx
  pub tx : vec_capacity new.tx ≡ vec_capacity old.tx

-- the last link is gone, with its seats
pub record HasLost {I O : Type 0} (old new : Home I O) (p : LinkParts I O) : Type 0 where
  pub links : old.links.items ≡ new.links.items ++ (p.input, p.output) ∷ []
  pub rx : old.rx.items ≡ new.rx.items ++ p.rx ∷ []
  pub tx : old.tx.items ≡ new.tx.items ++ p.tx ∷ []
