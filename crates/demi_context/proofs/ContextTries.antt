-- What a try of a token tells of the link whose port it is.
use Rattle.std.proofs.Common.{◌≡◌, ℕ, ◌<◌, length, ap, inl, inr}
use Rattle.demi_heap.specs.Seen.{HeapId}
use Rattle.demi_port.specs.Seen.{PassValue}
use Rattle.demi_port.specs.declared.redeem.Redeem.{Redeem}
use Rattle.demi_port.specs.declared.redeem.Redeem.TheVariants.{Ready as Come, NotYet as Busy, Spent as Over, Unknown as NoSuch}
use Rattle.demi_pdpix.specs.Answers.{IsRx, IsService, IsTx, Redeemed, SawBusy, SawSpent, SawUnknown, rx_answer, service_answer, tx_answer}
use Rattle.demi_pdpix.specs.Calls.{Changed, OnRx, OnService, OnTx}
use Rattle.demi_pdpix.specs.Seen.{RxPass, TxPass}
use Rattle.demi_pdpix.specs.Tries.{TriedAt, TriedRx, TriedTx}
use Rattle.demi_pdpix.specs.declared.kind.PortKind.TheVariants.{Receiving, Sending, Service as ServicePort}
use Rattle.demi_pdpix.specs.declared.outcomes.Answer.{Answer}
use Rattle.demi_pdpix.specs.declared.outcomes.Answer.TheVariants.{NotYet, Ready, Spent, Unknown}
use Rattle.demi_pdpix.specs.declared.outcomes.QResult.TheVariants.{Log, Mem, Rx, Service, Tx}
use Rattle.demi_pdpix.proofs.Outstanding.{redeems_due}
use Rattle.demi_store.specs.Laws.{Admits, StoreBasis}
use Rattle.demi_store.specs.declared.ask.StoreAsk.{StoreAsk}
use Rattle.demi_store.specs.declared.out.StoreOut.{StoreOut}
use Rattle.demi_store.specs.declared.told.StoreTold.{StoreTold}
use Rattle.demi_streamq.specs.Receiving.{IsFrom, RxAdmits}
use Rattle.demi_streamq.specs.Sending.{TxAdmits}
use Rattle.demi_streamq.specs.declared.rx_op.RxOp.{RxOp}
use Rattle.demi_streamq.specs.declared.rx_out.RxOut.{RxOut}
use Rattle.demi_streamq.specs.declared.rx_told.RxTold.{RxTold}
use Rattle.demi_streamq.specs.declared.tx_op.TxOp.{TxOp}
use Rattle.demi_streamq.specs.declared.tx_out.TxOut.{TxOut}
use Rattle.demi_link.specs.Events.{TriedBy, settled}
use Rattle.demi_link.specs.Sights.{Redeems, side_of}
use Rattle.demi_context.specs.ContextPorts.{Caller, IsIn, OwesLess, SameButRx, SameButStore, SameButTx, side_at}
use Rattle.demi_context.proofs.ContextOwing.{found_keeps, rx_owes, same_less, service_owes, tx_owes, unknown_keeps}
use Rattle.demi_context.proofs.ContextSides.{changed_else, changed_here, found_side, redeemed_side, rx_there, some_pass, store_there, tx_there}

unknown_side : {D T B : Type 0} (token : ℕ) (p q : PassValue D T B) → SawUnknown token p q → side_of q ≡ side_of p
unknown_side token p q saw = elim saw.found [
  | inl past ↦ ap side_of past.1
  | inr found ↦ found_side p q token _ found
]

-- only a pass of one link's port changed
pub only_rx : (P : RxPass → RxPass → Type 0) (k : ℕ) (c e : Caller) → OnRx c e → k < length c.rx → Changed k c.rx e.rx P → SameButRx k c e
only_rx P k c e only low changed = (ap (λ (x : Caller). side_of x.service) only, changed_else P k c.rx e.rx low changed, (λ j. ap (λ (x : Caller). side_at x.tx j) only), ap (λ (x : Caller). side_of x.memory) only)

pub only_tx : (P : TxPass → TxPass → Type 0) (k : ℕ) (c e : Caller) → OnTx c e → k < length c.tx → Changed k c.tx e.tx P → SameButTx k c e
only_tx P k c e only low changed = (ap (λ (x : Caller). side_of x.service) only, (λ j. ap (λ (x : Caller). side_at x.rx j) only), changed_else P k c.tx e.tx low changed, ap (λ (x : Caller). side_of x.memory) only)

pub only_service : (c e : Caller) → OnService c e → SameButStore c e
only_service c e only = ((λ j. ap (λ (x : Caller). side_at x.rx j) only), (λ j. ap (λ (x : Caller). side_at x.tx j) only), ap (λ (x : Caller). side_of x.memory) only)

-- A try at the receiving port of a link that there is.
module _ (L P : Type 0) (heap : HeapId) (token k : ℕ) (c e : Caller) (low : k < length c.rx) where
  pub rx_in : (answer : Answer L P StoreOut StoreAsk StoreTold StoreBasis) → TriedAt (Receiving k) Admits heap token c e answer → IsIn IsRx answer
  rx_in (Ready place (Mem o)) t = (t.1 (some_pass c.rx k low)).1
  rx_in (Ready place (Service o)) t = (t.1 (some_pass c.rx k low)).1
  rx_in (Ready place (Log o)) t = (t.1 (some_pass c.rx k low)).1
  rx_in (Ready place (Rx o)) t = tt
  rx_in (Ready place (Tx o)) t = (t.1 (some_pass c.rx k low)).1
  rx_in NotYet t = tt
  rx_in Spent t = tt
  rx_in Unknown t = tt

  pub rx_others : (answer : Answer L P StoreOut StoreAsk StoreTold StoreBasis) → TriedAt (Receiving k) Admits heap token c e answer → SameButRx k c e
  rx_others answer t = only_rx (λ p q. TriedRx heap token p q answer) k c e t.0 low t.1

  pub rx_tells : {K Q : Type 0} (r : Redeem K Q RxOut RxOp RxTold HeapId) → TriedAt {L = L} {P = P} (Receiving k) Admits heap token c e (rx_answer r)
      → TriedBy (λ o h t p. RxAdmits h t p o × IsFrom heap o) token (side_at c.rx k) (side_at e.rx k) r
  rx_tells (Come place o) t = changed_here (Redeemed (λ h t n. RxAdmits h t n o × IsFrom heap o) token place.0) k c.rx e.rx low t.1 (Redeems (λ h t n. RxAdmits h t n o × IsFrom heap o) token place.0)
      (λ p q r. redeemed_side (λ h t n. RxAdmits h t n o × IsFrom heap o) token place.0 p q (λ h t a. rx_there o place.0 h t a.0) r)
  rx_tells Busy t = changed_here (SawBusy token) k c.rx e.rx low t.1 (λ a b. b ≡ a) (λ p q s. found_side p q token _ s)
  rx_tells Over t = changed_here (SawSpent token) k c.rx e.rx low t.1 (λ a b. b ≡ a) (λ p q s. found_side p q token _ s)
  rx_tells NoSuch t = changed_here (SawUnknown token) k c.rx e.rx low t.1 (λ a b. b ≡ a) (unknown_side token)

  pub rx_less : {K Q : Type 0} (r : Redeem K Q RxOut RxOp RxTold HeapId) → TriedAt {L = L} {P = P} (Receiving k) Admits heap token c e (rx_answer r) → OwesLess (Receiving k) (settled r) c e
  rx_less (Come place o) t = λ n f due. redeems_due {L = L} {P = P} (Receiving k) Admits heap n token f c e place (Rx o) t due
  rx_less Busy t = same_less (Receiving k) c e (rx_owes (SawBusy token) k c e (found_keeps token _) t.0 t.1)
  rx_less Over t = same_less (Receiving k) c e (rx_owes (SawSpent token) k c e (found_keeps token _) t.0 t.1)
  rx_less NoSuch t = same_less (Receiving k) c e (rx_owes (SawUnknown token) k c e (unknown_keeps token) t.0 t.1)

-- At the sending port.
module _ (L P : Type 0) (heap : HeapId) (token k : ℕ) (c e : Caller) (low : k < length c.tx) where
  pub tx_in : (answer : Answer L P StoreOut StoreAsk StoreTold StoreBasis) → TriedAt (Sending k) Admits heap token c e answer → IsIn IsTx answer
  tx_in (Ready place (Mem o)) t = (t.1 (some_pass c.tx k low)).1
  tx_in (Ready place (Service o)) t = (t.1 (some_pass c.tx k low)).1
  tx_in (Ready place (Log o)) t = (t.1 (some_pass c.tx k low)).1
  tx_in (Ready place (Rx o)) t = (t.1 (some_pass c.tx k low)).1
  tx_in (Ready place (Tx o)) t = tt
  tx_in NotYet t = tt
  tx_in Spent t = tt
  tx_in Unknown t = tt

  pub tx_others : (answer : Answer L P StoreOut StoreAsk StoreTold StoreBasis) → TriedAt (Sending k) Admits heap token c e answer → SameButTx k c e
  tx_others answer t = only_tx (λ p q. TriedTx token p q answer) k c e t.0 low t.1

  pub tx_tells : {K Q : Type 0} (r : Redeem K Q TxOut TxOp ℕ HeapId) → TriedAt {L = L} {P = P} (Sending k) Admits heap token c e (tx_answer r)
      → TriedBy (λ o h t p. TxAdmits h t p o) token (side_at c.tx k) (side_at e.tx k) r
  tx_tells (Come place o) t = changed_here (Redeemed (λ h t n. TxAdmits h t n o) token place.0) k c.tx e.tx low t.1 (Redeems (λ h t n. TxAdmits h t n o) token place.0)
      (λ p q r. redeemed_side (λ h t n. TxAdmits h t n o) token place.0 p q (λ h t a. tx_there o place.0 h t a) r)
  tx_tells Busy t = changed_here (SawBusy token) k c.tx e.tx low t.1 (λ a b. b ≡ a) (λ p q s. found_side p q token _ s)
  tx_tells Over t = changed_here (SawSpent token) k c.tx e.tx low t.1 (λ a b. b ≡ a) (λ p q s. found_side p q token _ s)
  tx_tells NoSuch t = changed_here (SawUnknown token) k c.tx e.tx low t.1 (λ a b. b ≡ a) (unknown_side token)

  pub tx_less : {K Q : Type 0} (r : Redeem K Q TxOut TxOp ℕ HeapId) → TriedAt {L = L} {P = P} (Sending k) Admits heap token c e (tx_answer r) → OwesLess (Sending k) (settled r) c e
  tx_less (Come place o) t = λ n f due. redeems_due {L = L} {P = P} (Sending k) Admits heap n token f c e place (Tx o) t due
  tx_less Busy t = same_less (Sending k) c e (tx_owes (SawBusy token) k c e (found_keeps token _) t.0 t.1)
  tx_less Over t = same_less (Sending k) c e (tx_owes (SawSpent token) k c e (found_keeps token _) t.0 t.1)
  tx_less NoSuch t = same_less (Sending k) c e (tx_owes (SawUnknown token) k c e (unknown_keeps token) t.0 t.1)

-- At the store's port.
module _ (L P : Type 0) (heap : HeapId) (token : ℕ) (c e : Caller) where
  pub store_in : (answer : Answer L P StoreOut StoreAsk StoreTold StoreBasis) → TriedAt ServicePort Admits heap token c e answer → IsIn IsService answer
  store_in (Ready place (Mem o)) t = t.1
  store_in (Ready place (Service o)) t = tt
  store_in (Ready place (Log o)) t = t.1
  store_in (Ready place (Rx o)) t = t.1
  store_in (Ready place (Tx o)) t = t.1
  store_in NotYet t = tt
  store_in Spent t = tt
  store_in Unknown t = tt

  pub store_tells : (r : Redeem L P StoreOut StoreAsk StoreTold StoreBasis) → TriedAt ServicePort Admits heap token c e (service_answer r)
      → TriedBy (λ o h t p. Admits c.service.port.key.base h t p o) token (side_of c.service) (side_of e.service) r
  store_tells (Come place o) t = redeemed_side (λ h t n. Admits c.service.port.key.base h t n o) token place.0 c.service e.service (λ h t a. store_there c.service.port.key.base o place.0 h t a) t.1
  store_tells Busy t = found_side c.service e.service token _ t.1
  store_tells Over t = found_side c.service e.service token _ t.1
  store_tells NoSuch t = unknown_side token c.service e.service t.1

  pub store_less : (r : Redeem L P StoreOut StoreAsk StoreTold StoreBasis) → TriedAt ServicePort Admits heap token c e (service_answer r) → OwesLess ServicePort (settled r) c e
  store_less (Come place o) t = λ n f due. redeems_due {L = L} {P = P} ServicePort Admits heap n token f c e place (Service o) t due
  store_less Busy t = same_less ServicePort c e (service_owes (SawBusy token) c e (found_keeps token _) t.0 t.1)
  store_less Over t = same_less ServicePort c e (service_owes (SawSpent token) c e (found_keeps token _) t.0 t.1)
  store_less NoSuch t = same_less ServicePort c e (service_owes (SawUnknown token) c e (unknown_keeps token) t.0 t.1)
