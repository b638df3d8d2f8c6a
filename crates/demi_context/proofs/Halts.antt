-- The stop of a port that was redeemed, and what it comes to.
use Rattle.std.proofs.Common.{◌≡◌, ℕ, ◌<◌, List, [], ◌∷◌, length, get_or, inl, refl, ap, sym, subst, ◌∙◌, arith}
use Rattle.demi_port.specs.Seen.{PassValue, known_by}
use Rattle.demi_port.specs.declared.redeem.Redeem.TheVariants.{Ready as Come}
use Rattle.demi_port_core.specs.History.{Among}
use Rattle.demi_port_core.specs.Trails.{Behind}
use Rattle.demi_port_core.specs.declared.place.Place.{Place}
use Rattle.demi_port_core.specs.declared.place.QToken.{QToken}
use Rattle.demi_port_core.specs.declared.trail.Trail.{Trail}
use Rattle.demi_port_core.proofs.Lists.{among_right}
use Rattle.demi_memq.specs.declared.op.MemOp.TheVariants as memory
use Rattle.demi_pdpix.specs.Calls.{Changed}
use Rattle.demi_pdpix.specs.Kinds.{kind_of}
use Rattle.demi_pdpix.specs.Seen.{IsOf, MemPass}
use Rattle.demi_pdpix.specs.Tries.{TriedAt, TriedRx, TriedTx, Waited}
use Rattle.demi_pdpix.specs.declared.kind.PortKind.{PortKind}
use Rattle.demi_pdpix.specs.declared.kind.PortKind.TheVariants.{Memory, Service, Journal, Receiving, Sending, Nowhere}
use Rattle.demi_pdpix.specs.declared.outcomes.Answer.{Answer}
use Rattle.demi_pdpix.specs.declared.outcomes.Answer.TheVariants.{Ready, Unknown}
use Rattle.demi_pdpix.specs.declared.outcomes.QResult.{QResult}
use Rattle.demi_pdpix.specs.declared.outcomes.QResult.TheVariants.{Log, Mem, Rx, Service as Serviced, Tx}
use Rattle.demi_pdpix.proofs.Outstanding.{waited_due}
use Rattle.demi_pdpix.proofs.Returned.{set_length}
use Rattle.demi_store.specs.Laws.{Admits, StoreBasis}
use Rattle.demi_store.specs.declared.ask.StoreAsk.{StoreAsk}
use Rattle.demi_store.specs.declared.out.StoreOut.{StoreOut}
use Rattle.demi_store.specs.declared.told.StoreTold.{StoreTold}
use Rattle.demi_streamq.specs.Receiving.{IsFrom, RxAdmits}
use Rattle.demi_streamq.specs.Sending.{TxAdmits}
use Rattle.demi_streamq.specs.declared.rx_op.RxOp.TheVariants as receiving
use Rattle.demi_streamq.specs.declared.tx_op.TxOp.TheVariants as sending
use Rattle.demi_streamq.specs.declared.rx_out.RxOut.{RxOut}
use Rattle.demi_streamq.specs.declared.tx_out.TxOut.{TxOut}
use Rattle.demi_link.specs.Sights.{Redeems, Side, Submits, side_of}
use Rattle.demi_worker.specs.Stopping.{Stops}
use Rattle.demi_closed.specs.Closed.{Added}
use Rattle.demi_context.specs.ContextPorts.{Caller, OwesLess, OwesMore, OwesSame, SameButRx, SameButTx, Whole, side_at}
use Rattle.demi_context.specs.Halting.{Gives, GivesStop, HaltsAt, HasLooked, Learns, LinkHalts, Takes}
use Rattle.demi_closed.specs.OnlyLink.{store_stop}
use Rattle.demi_context.proofs.ContextSides.{some_pass}
use Rattle.demi_context.proofs.ContextSubmits.{rx_low, tx_low}
use Rattle.demi_context.proofs.ContextTries.{only_service, rx_in, rx_others, rx_tells, tx_in, tx_others, tx_tells}
use Rattle.demi_context.proofs.Halting.{all_busy_looked, only_memory}

-- a pass that is there after a change was there before
low_before : {D T B : Type 0} (P : PassValue D T B → PassValue D T B → Type 0) (k : ℕ) (xs ys : List (PassValue D T B)) → Changed k xs ys P → k < length ys → k < length xs
low_before P k xs ys changed low = let e = some_pass ys k low in let long : length ys ≡ length xs = ap length (changed e).0 ∙ set_length xs k (get_or ys k e) in omega (arith, long, low)

-- what is admitted, with less said of it
redeems_less : {D T : Type 0} (A B : List D → List (ℕ × T) → ℕ → Type 0) (token place : ℕ) (p q : Side D T) → ((h : List D) (t : List (ℕ × T)) (n : ℕ) → A h t n → B h t n) → Redeems A token place p q → Redeems B token place p q
redeems_less A B token place p q less r = record { side = r.side; grows = r.grows; admitted = less q.known.heard q.known.told place r.admitted; below = r.below; own = r.own; said = r.said }

-- A try that redeemed.
module _ (L P : Type 0) (d : Whole) (token : ℕ) (c e : Caller) (of : IsOf d e) (place : Place) where
  abbrev Outcome : Type 0
  Outcome = QResult L P StoreOut StoreAsk StoreTold StoreBasis

  memory_takes : (r : Outcome) → TriedAt {L = L} {P = P} Memory Admits d.heap token c e (Ready place r) → Takes d Memory token c e
  memory_takes (Mem o) t = ((ap (λ (x : MemPass). x.submitted) t.1.pass, t.1.grows), only_memory c e t.0)
  memory_takes (Serviced o) t = absurd t.1
  memory_takes (Log o) t = absurd t.1
  memory_takes (Rx o) t = absurd t.1
  memory_takes (Tx o) t = absurd t.1

  service_takes : (r : Outcome) → TriedAt {L = L} {P = P} Service Admits d.heap token c e (Ready place r) → Takes d Service token c e
  service_takes (Mem o) t = absurd t.1
  service_takes (Serviced o) t = let other = only_service c e t.0 in ((ap (λ (x : PassValue StoreAsk StoreTold StoreBasis). x.submitted) t.1.pass, t.1.grows), ap (λ (x : Caller). side_of x.memory) t.0, other.0, other.1)
  service_takes (Log o) t = absurd t.1
  service_takes (Rx o) t = absurd t.1
  service_takes (Tx o) t = absurd t.1

  rx_here : (k : ℕ) → k < length c.rx → (r : Outcome) → TriedAt {L = L} {P = P} (Receiving k) Admits d.heap token c e (Ready place r)
      → ((at : ℕ) × (o : RxOut) × Redeems (λ h t p. RxAdmits h t p o) token at (side_at c.rx k) (side_at e.rx k)) × SameButRx k c e
  rx_here k low (Mem o) t = absurd (rx_in L P d.heap token k c e low (Ready place (Mem o)) t)
  rx_here k low (Serviced o) t = absurd (rx_in L P d.heap token k c e low (Ready place (Serviced o)) t)
  rx_here k low (Log o) t = absurd (rx_in L P d.heap token k c e low (Ready place (Log o)) t)
  rx_here k low (Rx o) t = (
    (
      place.0,
      o,
      redeems_less (λ h t n. RxAdmits h t n o × IsFrom d.heap o) (λ h t n. RxAdmits h t n o) token place.0 (side_at c.rx k) (side_at e.rx k) (λ h t n both. both.0)
          (rx_tells L P d.heap token k c e low {K = Unit {0}} {Q = Unit {0}} (Come place o) t),
    ),
    rx_others L P d.heap token k c e low (Ready place (Rx o)) t,
  )
  rx_here k low (Tx o) t = absurd (rx_in L P d.heap token k c e low (Ready place (Tx o)) t)

  tx_here : (k : ℕ) → k < length c.tx → (r : Outcome) → TriedAt {L = L} {P = P} (Sending k) Admits d.heap token c e (Ready place r)
      → ((at : ℕ) × (o : TxOut) × Redeems (λ h t p. TxAdmits h t p o) token at (side_at c.tx k) (side_at e.tx k)) × SameButTx k c e
  tx_here k low (Mem o) t = absurd (tx_in L P d.heap token k c e low (Ready place (Mem o)) t)
  tx_here k low (Serviced o) t = absurd (tx_in L P d.heap token k c e low (Ready place (Serviced o)) t)
  tx_here k low (Log o) t = absurd (tx_in L P d.heap token k c e low (Ready place (Log o)) t)
  tx_here k low (Rx o) t = absurd (tx_in L P d.heap token k c e low (Ready place (Rx o)) t)
  tx_here k low (Tx o) t = (
    (place.0, o, tx_tells L P d.heap token k c e low {K = Unit {0}} {Q = Unit {0}} (Come place o) t),
    tx_others L P d.heap token k c e low (Ready place (Tx o)) t,
  )

  ready_or : (answer : Answer L P StoreOut StoreAsk StoreTold StoreBasis) (r : Outcome) → answer ≡ Ready place r → answer ≡ Unknown → ⊥
  ready_or answer r ready unknown = cc

  tried_takes : (kind : PortKind) (r : Outcome) → TriedAt {L = L} {P = P} kind Admits d.heap token c e (Ready place r) → Takes d kind token c e
  tried_takes Memory r t = memory_takes r t
  tried_takes Service r t = service_takes r t
  tried_takes Journal r t = tt
  tried_takes (Receiving k) r t = λ low. rx_here k (low_before (λ p q. TriedRx {L = L} {P = P} d.heap token p q (Ready place r)) k c.rx e.rx t.1 (rx_low d e k of.rx low)) r t
  tried_takes (Sending k) r t = λ low. tx_here k (low_before (λ p q. TriedTx {L = L} {P = P} token p q (Ready place r)) k c.tx e.tx t.1 (tx_low d e k of.tx low)) r t
  tried_takes Nowhere r t = ready_or (Ready place r) r refl t.0

-- after looks
takes_after : (d : Whole) (kind : PortKind) (token : ℕ) (b c e : Caller) → HasLooked b c → Takes d kind token c e → Takes d kind token b e
takes_after d Memory token b c e l t = (
  (t.0.0 ∙ ap (λ (s : Side _ _). s.submitted) l.memory, subst (Behind (known_by e.memory)) (ap (λ (s : Side _ _). s.known) l.memory) t.0.1),
  (t.1.0 ∙ l.sides.0, (λ k. t.1.1 k ∙ l.sides.1 k), λ k. t.1.2 k ∙ l.sides.2 k),
)
takes_after d Service token b c e l t = (
  (t.0.0 ∙ ap (λ (s : Side _ _). s.submitted) l.sides.0, subst (Behind (known_by e.service)) (ap (λ (s : Side _ _). s.known) l.sides.0) t.0.1),
  t.1 ∙ l.memory,
  (λ k. t.2 k ∙ l.sides.1 k),
  λ k. t.3 k ∙ l.sides.2 k,
)
takes_after d Journal token b c e l t = tt
takes_after d (Receiving k) token b c e l t = λ low. let h = t low in (
  (h.0.0, h.0.1, subst (λ (p : Side _ _). Redeems (λ a b n. RxAdmits a b n h.0.1) token h.0.0 p (side_at e.rx k)) (l.sides.1 k) h.0.2),
  (h.1.0 ∙ l.sides.0, (λ j other. h.1.1 j other ∙ l.sides.1 j), (λ j. h.1.2 j ∙ l.sides.2 j), h.1.3 ∙ l.memory),
)
takes_after d (Sending k) token b c e l t = λ low. let h = t low in (
  (h.0.0, h.0.1, subst (λ (p : Side _ _). Redeems (λ a b n. TxAdmits a b n h.0.1) token h.0.0 p (side_at e.tx k)) (l.sides.2 k) h.0.2),
  (h.1.0 ∙ l.sides.0, (λ j. h.1.1 j ∙ l.sides.1 j), (λ j other. h.1.2 j other ∙ l.sides.2 j), h.1.3 ∙ l.memory),
)
takes_after d Nowhere token b c e l t = t

-- A wait that redeemed.
module _ (L P : Type 0) (d : Whole) (token : QToken) (c e : Caller) (of : IsOf d e) (place : Place) (r : QResult L P StoreOut StoreAsk StoreTold StoreBasis) (w : Waited {L = L} {P = P} Admits d token c e (Ready place r)) where
  pub waited_takes : Takes d (kind_of d token.port) token.token.0 c e
  waited_takes = takes_after d (kind_of d token.port) token.token.0 c w.1 e (all_busy_looked d _ c w.1 w.2) (tried_takes L P d token.token.0 w.1 e of place (kind_of d token.port) r w.3)

  pub waited_owes : OwesLess (kind_of d token.port) 1 c e
  waited_owes = λ n f due. waited_due Admits d token n f c e place r w due

-- A stop that was submitted and redeemed.
stops_of : {D T O : Type 0} (admits : O → List D → List (ℕ × T) → ℕ → Type 0) (stop : D) (token place at : ℕ) (o : O) (p b q : Side D T) → Submits place p b token stop → Redeems (admits o) token at b q → Stops admits stop p q
stops_of admits stop token place at o p b q sub red =
    let there : Among (place, (token, stop)) b.submitted = subst (λ (s : Side _ _). Among (place, (token, stop)) s.submitted) (sym sub.side) (among_right (place, (token, stop)) p.submitted ((place, (token, stop)) ∷ []) (inl refl)) in
    record {
      place = place;
      token = token;
      outcome = o;
      between = b;
      submits = sub;
      redeems = subst (λ (n : ℕ). Redeems (admits o) token n b q) (sym (red.own place stop there)) red;
    }

added_of : {D T B : Type 0} (stop : D) (token : ℕ) (p : Side D T) (b q : PassValue D T B) → Gives token stop p (side_of b) → Learns b q → Added stop p q
added_of stop token p b q g l = record {
  place = g.0;
  token = token;
  submitted = l.0 ∙ ap (λ (s : Side _ _). s.submitted) g.1.side;
  grows = subst (Behind (known_by q)) (ap (λ (s : Side _ _). s.known) g.1.side) l.1;
}

pub halts_of : (d : Whole) (kind : PortKind) (token : ℕ) (c m e : Caller) → GivesStop d kind token c m → Takes d kind token m e → HaltsAt d kind c e
halts_of d Memory token c m e g t = (added_of memory.Stop token (side_of c.memory) m.memory e.memory g.0 t.0, (t.1.0 ∙ g.1.0, (λ k. t.1.1 k ∙ g.1.1 k), λ k. t.1.2 k ∙ g.1.2 k))
halts_of d Service token c m e g t = (added_of store_stop token (side_of c.service) m.service e.service g.0 t.0, t.1 ∙ g.1, (λ k. t.2 k ∙ g.2 k), λ k. t.3 k ∙ g.3 k)
halts_of d Journal token c m e g t = tt
halts_of d (Receiving k) token c m e g t = λ low. let a = g low in let b = t low in (
  stops_of (λ o h t p. RxAdmits h t p o) receiving.Stop token a.0.0 b.0.0 b.0.1 (side_at c.rx k) (side_at m.rx k) (side_at e.rx k) a.0.1 b.0.2,
  (b.1.0 ∙ a.1.0, (λ j other. b.1.1 j other ∙ a.1.1 j other), (λ j. b.1.2 j ∙ a.1.2 j), b.1.3 ∙ a.1.3),
)
halts_of d (Sending k) token c m e g t = λ low. let a = g low in let b = t low in (
  stops_of (λ o h t p. TxAdmits h t p o) sending.Stop token a.0.0 b.0.0 b.0.1 (side_at c.tx k) (side_at m.tx k) (side_at e.tx k) a.0.1 b.0.2,
  (b.1.0 ∙ a.1.0, (λ j. b.1.1 j ∙ a.1.1 j), (λ j other. b.1.2 j other ∙ a.1.2 j other), b.1.3 ∙ a.1.3),
)
halts_of d Nowhere token c m e g t = g

pub owes_round : (kind : PortKind) (c m e : Caller) → OwesMore kind c m → OwesLess kind 1 m e → OwesSame c e
owes_round kind c m e more less = λ n f due. less n f (more n f due)

-- both ports of a link
pub link_halts : (d : Whole) (link : ℕ) (c m e : Caller) → link < length d.rx → link < length d.tx → HaltsAt d (Receiving link) c m → HaltsAt d (Sending link) m e → LinkHalts link c e
link_halts d link c m e rx-low tx-low first second =
    let a = first rx-low in let b = second tx-low in
    record {
      rx = subst (Stops (λ o h t p. RxAdmits h t p o) receiving.Stop (side_at c.rx link)) (sym (b.1.1 link)) a.0;
      tx = subst (λ (p : Side _ _). Stops (λ o h t p'. TxAdmits h t p' o) sending.Stop p (side_at e.tx link)) (a.1.2 link) b.0;
      store = b.1.0 ∙ a.1.0;
      memory = b.1.3 ∙ a.1.3;
      others = ((λ k other. b.1.1 k ∙ a.1.1 k other), λ k other. b.1.2 k other ∙ a.1.2 k);
    }

-- the memory queues, and then the store
pub memory_added : (d : Whole) (c m e : Caller) → HaltsAt d Memory c m → HaltsAt d Service m e → Added memory.Stop (side_of c.memory) e.memory
memory_added d c m e first second = record {
  place = first.0.place;
  token = first.0.token;
  submitted = ap (λ (s : Side _ _). s.submitted) second.1 ∙ first.0.submitted;
  grows = subst (λ (k : Trail _ _). Behind k (known_by c.memory)) (sym (ap (λ (s : Side _ _). s.known) second.1)) first.0.grows;
}

pub store_added : (d : Whole) (c m e : Caller) → HaltsAt d Memory c m → HaltsAt d Service m e → Added store_stop (side_of c.service) e.service
store_added d c m e first second = subst (λ (p : Side StoreAsk StoreTold). Added store_stop p e.service) first.1.0 second.0
