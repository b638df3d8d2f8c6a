-- Parts of devices that were never made, or never ran, are back.
use Rattle.std.proofs.Common.{◌≡◌, ◌∙◌, ℕ, zero, suc, Bool, List, [], ◌∷◌, All, ap, arith, inr, length, map, refl, subst, sym}
use Rattle.demi_heap.specs.Seen.{HeapId}
use Rattle.demi_heap.specs.Seen.{PassValue as HeapPass}
use Rattle.demi_device.specs.Turning.{WholeDevice}
use Rattle.demi_memq.specs.Said.{is_stop as stops_memory}
use Rattle.demi_store.specs.Laws.{is_stop as stops_store}
use Rattle.demi_streamq.specs.Receiving.{is_stop as stops_reading}
use Rattle.demi_streamq.specs.Sending.{is_stop as stops_writing}
use Rattle.demi_port.specs.Seen.{PortId}
use Rattle.demi_store.specs.Laws.{StoreBasis}
use Rattle.demi_pdpix.specs.Seen.{AreNewPairs, DemiId, IsNewPair, Pair}
use Rattle.demi_server.specs.Building.{IsLinkNew, IsLinkSpent, IsSpent, LinkDevices, rx_of, tx_of}
use Rattle.demi_server.specs.Gathering.{AllDevices, AreBack, AreBackAt, AreFor, AreSameParts, AreSpent, AreUnused, Have, IsBackAt}
use Rattle.demi_server.specs.declared.parts.Parts.{Parts}

one_new : {D T B : Type 0} (heap : HeapId) (n : ℕ) (port : PortId B) (s t : Pair D T B) → IsNewPair heap n port s → t ≡ s → IsBackAt heap n port t
one_new heap n port s t new same = subst (IsBackAt heap n port) (sym same) (record { at = ap (λ z. z.port) new.0; passes = ap (λ z. z.passes) new.0; pass = ap (λ z. z.heap) new.1 })

all_new : {D T B : Type 0} (heap : HeapId) (n : ℕ) (ports : List (PortId B)) (ss : List (Pair D T B)) → AreNewPairs heap n ports ss → AreBackAt heap n ports ss
all_new heap n [] [] new = tt
all_new heap n [] (s ∷ ss) new = absurd new
all_new heap n (p ∷ ps) [] new = absurd new
all_new heap n (p ∷ ps) (s ∷ ss) new = (one_new heap n p s s new.0 refl, all_new heap n ps ss new.1)

-- the parts as they were
pub new_back : {I O D : Type 0} (d : DemiId StoreBasis) (p q : Parts I O D) → AreFor d p → AreSameParts p q → AreBack d q
new_back d p q for same = record {
  memory = one_new d.heap d.callers d.memory p.seats.memory q.seats.memory for.memory same.memory;
  service = one_new d.heap d.callers d.service p.seats.service q.seats.service for.service same.service;
  rx = subst (AreBackAt d.heap d.callers d.rx) (sym same.rx) (all_new d.heap d.callers d.rx p.seats.rx.items for.rx);
  tx = subst (AreBackAt d.heap d.callers d.tx) (sym same.tx) (all_new d.heap d.callers d.tx p.seats.tx.items for.tx);
}

-- devices that were made of parts and did nothing have the same parts
pub have_same : {I O D : Type 0} (v : AllDevices I O D) (p q : Parts I O D) → Have v p → Have v q → AreSameParts p q
have_same v p q had has = record {
  links = has.links ∙ sym had.links;
  store = has.store ∙ sym had.store;
  memory = has.memory ∙ sym had.memory;
  service = has.service ∙ sym had.service;
  journal = has.journal ∙ sym had.journal;
  rx = has.rx ∙ sym had.rx;
  tx = has.tx ∙ sym had.tx;
}

-- Devices that were made of new seats and did nothing are spent: nothing was fetched.
one_spent : {E D T B : Type 0} (stops : D → Bool) (served : E → List D) (w : WholeDevice E D T B) (heap : HeapId) (n : ℕ) (port : PortId B) (s : Pair D T B) (x : HeapPass)
    → IsNewPair heap n port s → s ≡ (w.seat, x) → served w.engine ≡ [] → IsSpent stops served w
one_spent stops served w heap n port s x new is none = record {
  all = ap length (sym (ap (λ z. z.0.fetched) is) ∙ ap (λ z. z.fetched) new.0) ∙ sym (ap length none);
  over = inr none;
}

links_spent : {I O : Type 0} (heap : HeapId) (n : ℕ) (rx tx : List (PortId HeapId)) (ws : List (LinkDevices I O)) → AreNewPairs heap n rx (map rx_of ws) → AreNewPairs heap n tx (map tx_of ws) → All IsLinkNew ws → All IsLinkSpent ws
links_spent heap n rx tx [] a b new k d low = absurd (omega (arith, low))
links_spent heap n [] tx (w ∷ ws) a b new k d low = absurd a
links_spent heap n (p ∷ rx) [] (w ∷ ws) a b new k d low = absurd b
links_spent heap n (p ∷ rx) (q ∷ tx) (w ∷ ws) a b new zero d low =
    let is = new 0 d (omega arith) in (
      one_spent stops_reading (λ e. e.served) w.first heap n p (rx_of w) w.first.engine.pass a.0 refl is.0,
      one_spent stops_writing (λ e. e.served) w.second heap n q (tx_of w) w.second.engine.pass b.0 refl is.2,
    )
links_spent heap n (p ∷ rx) (q ∷ tx) (w ∷ ws) a b new (suc k) d low = links_spent heap n rx tx ws a.1 b.1 (λ j e less. new (suc j) e (omega (arith, less))) k d (omega (arith, low))

pub unused_spent : {I O D : Type 0} (d : DemiId StoreBasis) (p : Parts I O D) (v : AllDevices I O D) → AreFor d p → Have v p → AreUnused v → AreSpent v
unused_spent d p v for had unused = record {
  memory = one_spent stops_memory (λ e. e.served) v.memory d.heap d.callers d.memory p.seats.memory v.memory.engine.pass for.memory had.memory unused.memory.0;
  store = one_spent stops_store (λ e. e.served) v.store d.heap d.callers d.service p.seats.service v.service_pass for.service had.service unused.store.0;
  links = links_spent d.heap d.callers d.rx d.tx v.links (subst (AreNewPairs d.heap d.callers d.rx) had.rx for.rx) (subst (AreNewPairs d.heap d.callers d.tx) had.tx for.tx) unused.links;
}
