-- What a try of a token tells, by the kind of its port.
use Rattle.std.specs.Prelude.{◌≡◌, ◌≢◌, ℕ, List, [], ◌∷◌, Some, replicate}
use Rattle.demi_port_core.specs.declared.place.QToken.{QToken}
use Rattle.demi_heap.specs.Seen.{HeapId}
use Rattle.demi_port.specs.Seen.{PassValue}
use Rattle.demi_memq.specs.Counting.{result_at}
use Rattle.demi_memq.specs.Said.{IsFrom as IsFromHeap, out_said}
use Rattle.demi_logq.specs.Answers.{Admits, IsFrom as IsFromLog}
use Rattle.demi_streamq.specs.Receiving.{IsFrom as IsOnHeap, RxAdmits}
use Rattle.demi_streamq.specs.Sending.{TxAdmits}
use Rattle.demi_pdpix.specs.declared.kind.PortKind.{PortKind}
use Rattle.demi_pdpix.specs.declared.kind.PortKind.TheVariants.{Memory, Service, Journal, Receiving, Sending, Nowhere}
use Rattle.demi_pdpix.specs.declared.outcomes.QResult.{QResult}
use Rattle.demi_pdpix.specs.declared.outcomes.QResult.TheVariants.{Mem, Service as Serviced, Log, Rx, Tx}
use Rattle.demi_pdpix.specs.declared.outcomes.Answer.{Answer}
use Rattle.demi_pdpix.specs.declared.outcomes.Answer.TheVariants.{NotYet, Unknown}
use Rattle.demi_pdpix.specs.Calls.{Changed, OnJournal, OnMemory, OnRx, OnService, OnTx}
use Rattle.demi_pdpix.specs.Kinds.{kind_of}
use Rattle.demi_pdpix.specs.Seen.{CallerValue, DemiId, LogPass, MemPass, RxPass, TxPass}
use Rattle.demi_pdpix.specs.Answers.{Cases, IsLog, IsMem, IsRx, IsService, IsTx, Redeemed, SawBusy, SawSpent, SawUnknown}

-- a pass of memory queues on this heap: the outcome is that of its place by the history that the pass was handed
abbrev pub TriedMemory : {L P O S T B : Type 0} → HeapId → ℕ → MemPass → MemPass → Answer L P O S T B → Type 0
TriedMemory heap token p q answer =
    Cases answer (λ place r. IsMem r (λ o. Redeemed (λ h t n. (result_at 1024 h n ≡ Some (out_said o)) × IsFromHeap heap o) token place p q))
    (SawBusy token p q) (SawSpent token p q) (SawUnknown token p q)

-- a pass of a service whose law admits so
abbrev pub TriedService : {L P O S T B : Type 0} → (B → List S → List (ℕ × T) → ℕ → O → Type 0) → ℕ → PassValue S T B → PassValue S T B → Answer L P O S T B → Type 0
TriedService admits token p q answer =
    Cases answer (λ place r. IsService r (λ o. Redeemed (λ h t n. admits p.port.key.base h t n o) token place p q))
    (SawBusy token p q) (SawSpent token p q) (SawUnknown token p q)

-- a pass of a log's queue: the outcome is that of its place over the port's base, by what the pass was handed, and its array is of this heap
abbrev pub TriedJournal : {L P O S T B : Type 0} → HeapId → ℕ → LogPass → LogPass → Answer L P O S T B → Type 0
TriedJournal heap token p q answer =
    Cases answer (λ place r. IsLog r (λ o. Redeemed (λ h t n. Admits p.port.key.base h t n o × IsFromLog heap o) token place p q))
    (SawBusy token p q) (SawSpent token p q) (SawUnknown token p q)

-- a pass of a port that receives into this heap
abbrev pub TriedRx : {L P O S T B : Type 0} → HeapId → ℕ → RxPass → RxPass → Answer L P O S T B → Type 0
TriedRx heap token p q answer =
    Cases answer (λ place r. IsRx r (λ o. Redeemed (λ h t n. RxAdmits h t n o × IsOnHeap heap o) token place p q))
    (SawBusy token p q) (SawSpent token p q) (SawUnknown token p q)

-- a pass of a port that sends
abbrev pub TriedTx : {L P O S T B : Type 0} → ℕ → TxPass → TxPass → Answer L P O S T B → Type 0
TriedTx token p q answer =
    Cases answer (λ place r. IsTx r (λ o. Redeemed (λ h t n. TxAdmits h t n o) token place p q))
    (SawBusy token p q) (SawSpent token p q) (SawUnknown token p q)

-- What one try of a token of a port of this kind tells, that made the caller e of c: of that port's pass alone; where there is no such port, nothing changed.
abbrev pub TriedAt : {L P O S T B : Type 0} → PortKind → (B → List S → List (ℕ × T) → ℕ → O → Type 0) → HeapId → ℕ → CallerValue S T B → CallerValue S T B → Answer L P O S T B → Type 0
TriedAt Memory admits heap token c e answer = OnMemory c e × TriedMemory heap token c.memory e.memory answer
TriedAt Service admits heap token c e answer = OnService c e × TriedService admits token c.service e.service answer
TriedAt Journal admits heap token c e answer = OnJournal c e × Changed 0 c.journal e.journal (λ p q. TriedJournal heap token p q answer)
TriedAt (Receiving k) admits heap token c e answer = OnRx c e × Changed k c.rx e.rx (λ p q. TriedRx heap token p q answer)
TriedAt (Sending k) admits heap token c e answer = OnTx c e × Changed k c.tx e.tx (λ p q. TriedTx token p q answer)
TriedAt Nowhere admits heap token c e answer = (answer ≡ Unknown) × (e ≡ c)

-- what one try of a token tells
abbrev pub Tried : {L P O S T B : Type 0} → (B → List S → List (ℕ × T) → ℕ → O → Type 0) → DemiId B → QToken → CallerValue S T B → CallerValue S T B → Answer L P O S T B → Type 0
Tried admits d token c e answer = TriedAt (kind_of d token.port) admits d.heap token.token.0 c e answer

-- what one try tells of a port of this kind, that found the token's operation still to come
abbrev pub BusyAt : {D T B : Type 0} → PortKind → ℕ → CallerValue D T B → CallerValue D T B → Type 0
BusyAt Memory token c e = OnMemory c e × SawBusy token c.memory e.memory
BusyAt Service token c e = OnService c e × SawBusy token c.service e.service
BusyAt Journal token c e = OnJournal c e × Changed 0 c.journal e.journal (SawBusy token)
BusyAt (Receiving k) token c e = OnRx c e × Changed k c.rx e.rx (SawBusy token)
BusyAt (Sending k) token c e = OnTx c e × Changed k c.tx e.tx (SawBusy token)
BusyAt Nowhere token c e = ⊥

-- the token's operation was still to come
abbrev pub FoundBusy : {D T B : Type 0} → DemiId B → QToken → CallerValue D T B → CallerValue D T B → Type 0
FoundBusy d token c e = BusyAt (kind_of d token.port) token.token.0 c e

-- the tokens were tried in order, and the operation of each was still to come
abbrev pub AllBusy : {D T B : Type 0} → DemiId B → List QToken → CallerValue D T B → CallerValue D T B → Type 0
AllBusy d [] c e = e ≡ c
AllBusy {D} {T} {B} d (t ∷ ts) c e = (m : CallerValue D T B) × FoundBusy d t c m × AllBusy d ts m e

-- the token was tried so often that found it busy, and then once more with this answer, which is another
abbrev pub Waited : {L P O S T B : Type 0} → (B → List S → List (ℕ × T) → ℕ → O → Type 0) → DemiId B → QToken → CallerValue S T B → CallerValue S T B → Answer L P O S T B → Type 0
Waited {S = S} {T = T} {B = B} admits d token c e answer = (n : ℕ) × (m : CallerValue S T B) × AllBusy d (replicate n token) c m × Tried admits d token m e answer × (answer ≢ NotYet)

-- the arrays and buffers of an outcome are of this heap
abbrev pub HoldsOf : {L P O S T B : Type 0} → HeapId → QResult L P O S T B → Type 0
HoldsOf heap (Mem o) = IsFromHeap heap o
HoldsOf heap (Serviced o) = Unit {0}
HoldsOf heap (Log o) = IsFromLog heap o
HoldsOf heap (Rx o) = IsOnHeap heap o
HoldsOf heap (Tx o) = Unit {0}
