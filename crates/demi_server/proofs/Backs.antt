-- What was made, has run and was taken apart is back.
use Rattle.std.proofs.Common.{◌≡◌, ◌∙◌, ℕ, suc, ◌<◌, List, [], ◌∷◌, Bool, Option, length, map, get_or, sym, ap, subst, arith, refl}
use Rattle.demi_heap.specs.Seen.{HeapId}
use Rattle.demi_heap.specs.Seen.{PassValue as HeapPass}
use Rattle.demi_port.specs.Seen.{DeviceValue, PortId}
use Rattle.demi_store.specs.Laws.{StoreBasis}
use Rattle.demi_pdpix.specs.Seen.{AreNewPairs, DemiId, IsNewPair, Pair}
use Rattle.demi_server.specs.Building.{rx_of, tx_of}
use Rattle.demi_server.specs.Gathering.{AllDevices, AreBack, AreBackAt, AreFor, Have, IsBackAt}
use Rattle.demi_server.specs.Runs.{MemRan, RxRan, StoreRan, TxRan}
use Rattle.demi_work.specs.Working.{BothDone, EachBecame}
use Rattle.demi_server.specs.declared.parts.Parts.{Parts}

-- the seat and the pass of one device
one_back : {D T B : Type 0} (heap : HeapId) (n : ℕ) (port : PortId B) (s t : Pair D T B) (a b : DeviceValue D T B) (x y : HeapPass)
    → IsNewPair heap n port s → s ≡ (a, x) → t ≡ (b, y) → b.port ≡ a.port → b.passes ≡ a.passes → y.heap ≡ x.heap → IsBackAt heap n port t
one_back heap n port s t a b x y new was is at passes pass = record {
  at = ap (λ (z : Pair _ _ _). z.0.port) is ∙ at ∙ sym (ap (λ (z : Pair _ _ _). z.0.port) was) ∙ ap (λ (z : DeviceValue _ _ _). z.port) new.0;
  passes = ap (λ (z : Pair _ _ _). z.0.passes) is ∙ passes ∙ sym (ap (λ (z : Pair _ _ _). z.0.passes) was) ∙ ap (λ (z : DeviceValue _ _ _). z.passes) new.0;
  pass = ap (λ (z : Pair _ _ _). z.1.heap) is ∙ pass ∙ sym (ap (λ (z : Pair _ _ _). z.1.heap) was) ∙ ap (λ z. z.heap) new.1;
}

-- the seats of all links, where f gives that of a link
links_back : {A D T B : Type 0} (heap : HeapId) (n : ℕ) (f : A → Pair D T B) (ports : List (PortId B)) (vs ws : List A)
    → AreNewPairs heap n ports (map f vs) → length ws ≡ length vs
    → ((k : ℕ) (d : A) → k < length vs → ((f (get_or ws k d)).0.port ≡ (f (get_or vs k d)).0.port) × ((f (get_or ws k d)).0.passes ≡ (f (get_or vs k d)).0.passes) × ((f (get_or ws k d)).1.heap ≡ (f (get_or vs k d)).1.heap))
    → AreBackAt heap n ports (map f ws)
links_back heap n f [] [] [] new many same = tt
links_back heap n f [] [] (w ∷ ws) new many same = absurd (omega (arith, many))
links_back heap n f [] (v ∷ vs) ws new many same = absurd new
links_back heap n f (p ∷ ps) [] ws new many same = absurd new
links_back heap n f (p ∷ ps) (v ∷ vs) [] new many same = absurd (omega (arith, many))
links_back heap n f (p ∷ ps) (v ∷ vs) (w ∷ ws) new many same =
    let first = same 0 v (omega arith) in (
      one_back heap n p (f v) (f w) (f v).0 (f w).0 (f v).1 (f w).1 new.0 refl refl first.0 first.1 first.2,
      links_back heap n f ps vs ws new.1 (omega (arith, many)) (λ k d low. same (suc k) d (omega (arith, low))),
    )

-- all seats of devices that were made of new parts, have run, and were taken apart
pub all_back : {I O D : Type 0} (taken : I → ℕ) (left : I → Option (List ℕ)) (read_faults : I → ℕ) (reads : I → ℕ → Option (List ℕ) → I → Type 0) (written : O → Option (List ℕ)) (write_faults : O → ℕ)
    (bytes : D → Option (List ℕ)) (held faults : D → ℕ) (appends : D → List ℕ → Bool → D → Type 0) (looks : D → D → Type 0)
    (d : DemiId StoreBasis) (p q : Parts I O D) (v w : AllDevices I O D)
    → AreFor d p → Have v p → MemRan v.memory w.memory → StoreRan bytes held faults appends looks v.store w.store
    → EachBecame (BothDone (RxRan taken left read_faults reads) (TxRan written write_faults)) v.links w.links → w.service_pass ≡ v.service_pass → Have w q → AreBack d q
all_back taken left read_faults reads written write_faults bytes held faults appends looks d p q v w for had memory store links pass has = record {
  memory = one_back d.heap d.callers d.memory p.seats.memory q.seats.memory v.memory.seat w.memory.seat v.memory.engine.pass w.memory.engine.pass for.memory had.memory has.memory memory.same_port memory.same_passes memory.same_base;
  service = one_back d.heap d.callers d.service p.seats.service q.seats.service v.store.seat w.store.seat v.service_pass w.service_pass for.service had.service has.service store.same_port store.same_passes (ap (λ z. z.heap) pass);
  rx = subst (AreBackAt d.heap d.callers d.rx) (sym has.rx) (links_back d.heap d.callers rx_of d.rx v.links w.links (subst (AreNewPairs d.heap d.callers d.rx) had.rx for.rx) links.as_many (λ k x low. let e = (links.each k x low).0 in (e.same_port, e.same_passes, e.same_base)));
  tx = subst (AreBackAt d.heap d.callers d.tx) (sym has.tx) (links_back d.heap d.callers tx_of d.tx v.links w.links (subst (AreNewPairs d.heap d.callers d.tx) had.tx for.tx) links.as_many (λ k x low. let e = (links.each k x low).1 in (e.same_port, e.same_passes, e.same_base)));
}
