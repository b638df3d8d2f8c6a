-- What contracts see of the whole and of a caller.
use Rattle.std.specs.Prelude.{◌≡◌, ℕ, ◌+◌, List, [], ◌∷◌, Option, Some, None}
use Rattle.demi_heap.specs.Seen.{HeapId}
use Rattle.demi_heap.specs.Seen.{PassValue as HeapPassValue, new_pass as new_heap_pass}
use Rattle.demi_port.specs.Seen.{DeviceValue, IsNewPass, IsNewSeat, PassValue, PortId}
use Rattle.demi_memq.specs.declared.op.MemOp.{MemOp}
use Rattle.demi_logq.specs.declared.op.LogOp.{LogOp}
use Rattle.demi_logq.specs.declared.told.LogTold.{LogTold}
use Rattle.demi_logq.specs.Answers.{LogBasis}
use Rattle.demi_streamq.specs.declared.rx_op.RxOp.{RxOp}
use Rattle.demi_streamq.specs.declared.rx_told.RxTold.{RxTold}
use Rattle.demi_streamq.specs.declared.tx_op.TxOp.{TxOp}

-- a pass of the memory queues, of a log's queue, of a receiving port, and of a sending port
abbrev pub MemPass : Type 0
MemPass = PassValue MemOp (Unit {0}) HeapId

abbrev pub LogPass : Type 0
LogPass = PassValue LogOp LogTold LogBasis

abbrev pub RxPass : Type 0
RxPass = PassValue RxOp RxTold HeapId

abbrev pub TxPass : Type 0
TxPass = PassValue TxOp ℕ HeapId

-- the seat of a device, with a pass of the heap
abbrev pub Pair : Type 0 → Type 0 → Type 0 → Type 0
Pair D T B = DeviceValue D T B × HeapPassValue

abbrev pub MemPair : Type 0
MemPair = Pair MemOp (Unit {0}) HeapId

abbrev pub LogPair : Type 0
LogPair = Pair LogOp LogTold LogBasis

abbrev pub RxPair : Type 0
RxPair = Pair RxOp RxTold HeapId

abbrev pub TxPair : Type 0
TxPair = Pair TxOp ℕ HeapId

-- the whole: its heap, its ports, of which there is one for a log or none, and for each link one that receives and one that sends; and how many callers it has
pub record DemiId (B : Type 0) : Type 0 where
  pub heap : HeapId
  pub memory : PortId HeapId
  pub service : PortId B
  pub journal : List (PortId LogBasis)
  pub rx : List (PortId HeapId)
  pub tx : List (PortId HeapId)
  pub callers : ℕ

-- a caller: its pass of the heap and of each port
pub record CallerValue (D T B : Type 0) : Type 0 where
  pub heap : HeapPassValue
  pub memory : MemPass
  pub service : PassValue D T B
  pub journal : List LogPass
  pub rx : List RxPass
  pub tx : List TxPass

-- each pass is of its port
abbrev pub AreAt : {D T B : Type 0} → List (PassValue D T B) → List (PortId B) → Type 0
AreAt [] [] = Unit {0}
AreAt [] (x ∷ xs) = ⊥
AreAt (p ∷ ps) [] = ⊥
AreAt (p ∷ ps) (x ∷ xs) = (p.port ≡ x) × AreAt ps xs

-- the caller's passes are of this heap and of these ports
pub record IsOf {D T B : Type 0} (d : DemiId B) (c : CallerValue D T B) : Type 0 where
  pub heap : c.heap.heap ≡ d.heap
  pub memory : c.memory.port ≡ d.memory
  pub service : c.service.port ≡ d.service
  pub journal : AreAt c.journal d.journal
  pub rx : AreAt c.rx d.rx
  pub tx : AreAt c.tx d.tx

-- each pass has this number and has done nothing, and is of its port
abbrev pub AreNewAt : {D T B : Type 0} → ℕ → List (PassValue D T B) → List (PortId B) → Type 0
AreNewAt n [] [] = Unit {0}
AreNewAt n [] (x ∷ xs) = ⊥
AreNewAt n (p ∷ ps) [] = ⊥
AreNewAt n (p ∷ ps) (x ∷ xs) = IsNewPass x n p × AreNewAt n ps xs

-- the caller with the number n, which has done nothing
pub record IsNewCaller {D T B : Type 0} (d : DemiId B) (n : ℕ) (c : CallerValue D T B) : Type 0 where
  pub heap : c.heap ≡ new_heap_pass d.heap
  pub memory : IsNewPass d.memory n c.memory
  pub service : IsNewPass d.service n c.service
  pub journal : AreNewAt n c.journal d.journal
  pub rx : AreNewAt n c.rx d.rx
  pub tx : AreNewAt n c.tx d.tx

-- such callers, with the numbers from n on
abbrev pub AreNewCallers : {D T B : Type 0} → DemiId B → ℕ → List (CallerValue D T B) → Type 0
AreNewCallers d n [] = Unit {0}
AreNewCallers d n (c ∷ cs) = IsNewCaller d n c × AreNewCallers d (n + 1) cs

-- what a caller has of the heap, of the memory queues and of the service
abbrev pub heap_of : {D T B : Type 0} → CallerValue D T B → HeapPassValue
heap_of c = c.heap

abbrev pub memory_of : {D T B : Type 0} → CallerValue D T B → MemPass
memory_of c = c.memory

abbrev pub service_of : {D T B : Type 0} → CallerValue D T B → PassValue D T B
service_of c = c.service

-- the seat of a new port's device, with a pass of the heap that has done nothing
abbrev pub IsNewPair : {D T B : Type 0} → HeapId → ℕ → PortId B → Pair D T B → Type 0
IsNewPair heap callers port s = IsNewSeat port callers s.0 × (s.1 ≡ new_heap_pass heap)

-- such seats of these ports, in order
abbrev pub AreNewPairs : {D T B : Type 0} → HeapId → ℕ → List (PortId B) → List (Pair D T B) → Type 0
AreNewPairs heap callers [] [] = Unit {0}
AreNewPairs heap callers [] (s ∷ ss) = ⊥
AreNewPairs heap callers (x ∷ xs) [] = ⊥
AreNewPairs heap callers (x ∷ xs) (s ∷ ss) = IsNewPair heap callers x s × AreNewPairs heap callers xs ss

-- the one that is there, or none
abbrev pub as_list : {A : Type 0} → Option A → List A
as_list None = []
as_list (Some a) = a ∷ []
