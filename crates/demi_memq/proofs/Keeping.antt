-- What is kept, one operation further.
use Rattle.std.proofs.Common.{◌⊎◌, inl, inr, ◌≡◌, ◌≢◌, ℕ, suc, ◌+◌, ◌<◌, ◌≤◌, List, [], ◌∷◌, ◌++◌, length, drop, Option, Some, None, Bool, true, false, cond, refl, sym, ap, ◌∙◌, arith, subst, length-append, append_assoc}
use Rattle.std.specs.Prelude.{◌==◌, ◌&&◌, not, ltb, slice_get}
use Rattle.demi_port_core.specs.History.{Each}
use Rattle.demi_device.specs.Serving.{Comes, EachMayPend, NonePends, HasStop, first_stop, places}
use Rattle.demi_heap.specs.Seen.{HalfValue}
use Rattle.demi_memq.specs.declared.op.MemOp.{MemOp}
use Rattle.demi_memq.specs.declared.op.MemOp.TheVariants.{Queue, Push, Pop, Close, Stop}
use Rattle.demi_memq.specs.declared.out.MemOut.{MemOut}
use Rattle.demi_memq.specs.Said.{is_stop, out_said}
use Rattle.demi_memq.specs.Counting.{beside, has, Counts, none_yet, pushed, popped, counted, counts_from, counts, item_or, result_at, has_room}
use Rattle.demi_memq.specs.Steady.{append_none}
use Rattle.demi_memq.specs.Rooms.{rest, on, Once, Pends, IsPop, AllPops, Agrees, Stands, RoomsShow, Came, Mid}
use Rattle.demi_memq.proofs.Lists.{self_test, by_test, by_number, beside_same, beside_other, rest_length, drop_head, get_drop, get_none, get_last, no_outcome, has_none, none_beside, places_append}
use Rattle.demi_memq.proofs.Moves.{once_new, once_ask, once_done, once_place, come_more, pop_result, pops_more}

-- a pop that waits is one of its queue's
pub on_in : (p : ℕ) (n : List (ℕ × ℕ)) → 1 ≤ on p n → (q : ℕ) × (i : ℕ) × (slice_get (beside q n) i ≡ Some p)
on_in p [] some = absurd (omega arith)
on_in p (d ∷ ds) some =
    by_test (λ b. 1 ≤ cond b 1 0 + on p ds → (d.1 == p) ≡ b → (q : ℕ) × (i : ℕ) × (slice_get (beside q (d ∷ ds)) i ≡ Some p)) (d.1 == p)
    (λ _ _ s. (d.0, 0, ap (λ b. slice_get (cond b (d.1 ∷ beside d.0 ds) (beside d.0 ds)) 0) (self_test d.0) ∙ ap Some (borrow.Author.Tests.eqb-true d.1 p s)))
    (λ _ less _. let h = on_in p ds (omega arith) in
    by_test (λ b. (q : ℕ) × (i : ℕ) × (slice_get (beside q (d ∷ ds)) i ≡ Some p)) (d.0 == h.0)
    (λ s. (h.0, suc h.1, ap (λ b. slice_get (cond b (d.1 ∷ beside h.0 ds) (beside h.0 ds)) (suc h.1)) s ∙ h.2))
    (λ s. (h.0, h.1, ap (λ b. slice_get (cond b (d.1 ∷ beside h.0 ds) (beside h.0 ds)) h.1) s ∙ h.2))) some refl

one_longer : (h : List MemOp) (op : MemOp) → length h + 1 ≡ length (h ++ op ∷ [])
one_longer h op = sym (length-append h (op ∷ []))

pub mid_start : (m : ℕ) (h next : List MemOp) (f : List (ℕ × MemOut)) (made : ℕ) (shut : List Bool) (stop : Option ℕ) (w : List (ℕ × List HalfValue)) (n : List (ℕ × ℕ)) → RoomsShow m h f made shut stop w n → Mid m h next f [] n
mid_start m h next f made shut stop w n k = record { once = subst (λ l. Once (length h) l n) (sym (append_none f)) k.once; count = let c = k.count in omega arith; came = tt }

come : (m k p : ℕ) (h : List MemOp) (f added : List (ℕ × MemOut)) (o : MemOut) → p < k → Pends p (f ++ added) → result_at m h p ≡ Some (out_said o)
    → Comes {T = Unit {0}} k (λ _. None) (λ _ p o. result_at m h p ≡ Some (out_said o)) [] (places f ++ places added) (p, o)
come m k p h f added o lt pends is = record { served = lt; open_yet = subst (Each (λ j. j ≢ p)) (places_append f added) pends; may_tell = tt; admitted = is }

-- a pop that waited has its outcome
pub mid_done : (m q p : ℕ) (r : List ℕ) (h : List MemOp) (op : MemOp) (f added : List (ℕ × MemOut)) (n : List (ℕ × ℕ)) (o : MemOut) → Mid m h (h ++ op ∷ []) f added n → beside q n ≡ p ∷ r → result_at m (h ++ op ∷ []) p ≡ Some (out_said o) → Mid m h (h ++ op ∷ []) f (added ++ (p, o) ∷ []) (rest q n)
mid_done m q p r h op f added n o d e is =
    let here : 1 ≤ on p n = let a = Rattle.demi_memq.proofs.Lists.on_rest p q p r n e in let b : cond (p == p) 1 0 + on p (rest q n) ≡ 1 + on p (rest q n) = ap (λ (b : Bool). let x : ℕ = cond b 1 0 + on p (rest q n) in x) (self_test p) in omega arith in
    let at = once_place (length h) p (f ++ added) n d.once here in let lt = at.0 in let len = one_longer h op in
    record {
      once = subst (λ l. Once (length h) l (rest q n)) (append_assoc f added ((p, o) ∷ [])) (once_done (length h) q p r o (f ++ added) n e d.once);
      count = let c = d.count in let a = length-append added ((p, o) ∷ []) in let b = rest_length q p r n e in omega arith;
      came = come_more (length (h ++ op ∷ [])) (λ p o. result_at m (h ++ op ∷ []) p ≡ Some (out_said o)) [] (places f) added (p, o) d.came (come m (length (h ++ op ∷ [])) p (h ++ op ∷ []) f added o (omega arith) at.1 is);
    }

-- the operation has its outcome at last
pub mid_last : (m : ℕ) (h : List MemOp) (op : MemOp) (f added : List (ℕ × MemOut)) (t : Counts) (made : ℕ) (shut : List Bool) (stop : Option ℕ) (w : List (ℕ × List HalfValue)) (n : List (ℕ × ℕ)) (o : MemOut) → Mid m h (h ++ op ∷ []) f added n → AllPops m h → counts m (h ++ op ∷ []) ≡ t → Stands stop t made shut w n → result_at m (h ++ op ∷ []) (length h) ≡ Some (out_said o) → RoomsShow m (h ++ op ∷ []) (f ++ (added ++ (length h, o) ∷ [])) made shut stop w n × Came m (h ++ op ∷ []) f (added ++ (length h, o) ∷ [])
mid_last m h op f added t made shut stop w n o d pops is stands res =
    let len = one_longer h op in let all = append_assoc f added ((length h, o) ∷ []) in
    let mine : Pends (length h) (f ++ added) = let a = d.once.above (length h) (omega arith) in no_outcome (length h) (f ++ added) (omega arith) in (
      record {
        stands = subst (λ t. Stands stop t made shut w n) (sym is) stands;
        pops = pops_more m h op pops;
        once = subst (λ l. Once (length (h ++ op ∷ [])) l n) all (subst (λ k. Once k ((f ++ added) ++ (length h, o) ∷ []) n) len (once_new (length h) o (f ++ added) n d.once));
        count = let c = d.count in let a = length-append added ((length h, o) ∷ []) in let b = length-append f (added ++ (length h, o) ∷ []) in omega arith;
      },
      come_more (length (h ++ op ∷ [])) (λ p o. result_at m (h ++ op ∷ []) p ≡ Some (out_said o)) [] (places f) added (length h, o) d.came (come m (length (h ++ op ∷ [])) (length h) (h ++ op ∷ []) f added o (omega arith) mine res),
    )

-- the operation waits
pub mid_ask : (m q : ℕ) (h : List MemOp) (op : MemOp) (f : List (ℕ × MemOut)) (t : Counts) (made : ℕ) (shut : List Bool) (w : List (ℕ × List HalfValue)) (n : List (ℕ × ℕ)) → Once (length h) f n → length h ≡ length f + length n → AllPops m h → counts m (h ++ op ∷ []) ≡ t → Stands None t made shut w (n ++ (q, length h) ∷ []) → RoomsShow m (h ++ op ∷ []) f made shut None w (n ++ (q, length h) ∷ [])
mid_ask m q h op f t made shut w n once count pops is stands =
    let len = one_longer h op in
    record {
      stands = subst (λ t. Stands None t made shut w (n ++ (q, length h) ∷ [])) (sym is) stands;
      pops = pops_more m h op pops;
      once = subst (λ k. Once k f (n ++ (q, length h) ∷ [])) len (once_ask (length h) q f n once);
      count = let a = length-append n ((q, length h) ∷ []) in omega arith;
    }

-- where a pop that waits stands
pub pend_at : (m q i p : ℕ) (h : List MemOp) (made : ℕ) (shut : List Bool) (w : List (ℕ × List HalfValue)) (n : List (ℕ × ℕ)) → Agrees (counts m h) made shut w n → AllPops m h → slice_get (beside q n) i ≡ Some p → (has q (counts m h).shut ≡ false) × IsPop m h q (pushed q (counts m h) + i) p
pend_at m q i p h made shut w n g pops e =
    by_test (λ b. has q (counts m h).shut ≡ b → beside q n ≡ cond b [] (drop (pushed q (counts m h)) (beside q (counts m h).pops)) → (has q (counts m h).shut ≡ false) × IsPop m h q (pushed q (counts m h) + i) p) (has q (counts m h).shut)
    (λ _ s is. let bad : slice_get {X = ℕ} [] i ≡ Some p = ap (λ l. slice_get l i) (sym is) ∙ e in absurd (cc))
    (λ _ s is. (s, pops q (pushed q (counts m h) + i) p (get_drop (pushed q (counts m h)) i (beside q (counts m h).pops) p (ap (λ l. slice_get l i) (sym is) ∙ e)))) refl (g.asks q)

-- what waits may pend
waits_on : (m q i p : ℕ) (h : List MemOp) (f : List (ℕ × MemOut)) (made : ℕ) (shut : List Bool) (stop : Option ℕ) (w : List (ℕ × List HalfValue)) (n : List (ℕ × ℕ)) → Stands stop (counts m h) made shut w n → AllPops m h → slice_get (beside q n) i ≡ Some p → result_at m h p ≡ None
waits_on m q i p h f made shut None w n g pops e =
    let a = pend_at m q i p h made shut w n g.1 pops e in
    pop_result m h q (pushed q (counts m h) + i) p a.1 ∙ ap (λ x. item_or x (has q (counts m h).shut) (counts m h).stop) (get_none (beside q (counts m h).pushes) (pushed q (counts m h) + i) (omega arith)) ∙ ap (λ b. item_or None b (counts m h).stop) a.0 ∙ ap (λ s. item_or None false s) g.0
waits_on m q i p h f made shut (Some s) w n g pops e = let bad : slice_get {X = ℕ} (beside q []) i ≡ Some p = ap (λ l. slice_get (beside q l) i) (sym g.2) ∙ e in absurd (cc)

pub each_pends : (m : ℕ) (h : List MemOp) (f : List (ℕ × MemOut)) (made : ℕ) (shut : List Bool) (stop : Option ℕ) (w : List (ℕ × List HalfValue)) (n : List (ℕ × ℕ)) → RoomsShow m h f made shut stop w n → EachMayPend (λ p. result_at m h p ≡ None) (length h) (places f)
each_pends m h f made shut stop w n k p lt pends =
    let a = k.once.below p lt in let b = has_none p f pends in let at = on_in p n (omega arith) in waits_on m at.0 at.1 p h f made shut stop w n k.stands k.pops at.2

-- the first stop
stays_stopped : (m p s : ℕ) (h : List MemOp) (t : Counts) → t.stop ≡ Some s → (counts_from m p t h).stop ≡ Some s
stays_stopped m p s [] t e = e
stays_stopped m p s (op ∷ ops) t e = stays_stopped m (p + 1) s ops (counted m p op t t.stop) (ap (λ o. (counted m p op t o).stop) e ∙ e)

calm_if : (b : Bool) (x y : Counts) → x.stop ≡ None → y.stop ≡ None → (cond b x y).stop ≡ None
calm_if true x y e f = e
calm_if false x y e f = f

first_from : (m p : ℕ) (h : List MemOp) (t : Counts) → t.stop ≡ None → (counts_from m p t h).stop ≡ first_stop is_stop p h
first_from m p [] t e = e
first_from m p (Queue ∷ ops) t e = first_from m (p + 1) ops _ (ap (λ o. (counted m p Queue t o).stop) e ∙ calm_if (ltb t.made 256) (record t { made = t.made + 1 }) t e e)
first_from m p (Push q x ∷ ops) t e = first_from m (p + 1) ops _ (ap (λ o. (counted m p (Push q x) t o).stop) e ∙ calm_if (ltb q t.made && (not (has q t.shut) && has_room m q t)) (record t { pushes = t.pushes ++ (q, x) ∷ [] }) t e e)
first_from m p (Pop q ∷ ops) t e = first_from m (p + 1) ops _ (ap (λ o. (counted m p (Pop q) t o).stop) e ∙ calm_if (ltb q t.made) (record t { pops = t.pops ++ (q, p) ∷ [] }) t e e)
first_from m p (Close q ∷ ops) t e = first_from m (p + 1) ops _ (ap (λ o. (counted m p (Close q) t o).stop) e ∙ calm_if (ltb q t.made && not (has q t.shut)) (record t { shut = q ∷ t.shut }) t e e)
first_from m p (Stop ∷ ops) t e = stays_stopped m (p + 1) p ops _ (ap (λ o. (counted m p Stop t o).stop) e)

pub first_is : (m : ℕ) (h : List MemOp) → (counts m h).stop ≡ first_stop is_stop 0 h
first_is m h = first_from m 0 h none_yet refl

stop_is : (t : Counts) (made : ℕ) (shut : List Bool) (stop : Option ℕ) (w : List (ℕ × List HalfValue)) (n : List (ℕ × ℕ)) → Stands stop t made shut w n → t.stop ≡ stop
stop_is t made shut None w n g = g.0
stop_is t made shut (Some s) w n g = g.0

pub kept_stop : (m : ℕ) (h : List MemOp) (f : List (ℕ × MemOut)) (made : ℕ) (shut : List Bool) (stop : Option ℕ) (w : List (ℕ × List HalfValue)) (n : List (ℕ × ℕ)) → RoomsShow m h f made shut stop w n → stop ≡ first_stop is_stop 0 h
kept_stop m h f made shut stop w n k = sym (stop_is (counts m h) made shut stop w n k.stands) ∙ first_is m h

ended : (m p : ℕ) (h : List MemOp) (f : List (ℕ × MemOut)) (made : ℕ) (shut : List Bool) (stop : Option ℕ) (w : List (ℕ × List HalfValue)) (n : List (ℕ × ℕ)) → RoomsShow m h f made shut stop w n → stop ≢ None → p < length h → Pends p f → ⊥
ended m p h f made shut None w n k some lt pends = some refl
ended m p h f made shut (Some s) w n k some lt pends = let a = k.once.below p lt in let b = has_none p f pends in let c : on p n ≡ 0 = ap (on p) k.stands.2 in omega arith

pub none_pends : (m : ℕ) (h : List MemOp) (f : List (ℕ × MemOut)) (made : ℕ) (shut : List Bool) (stop : Option ℕ) (w : List (ℕ × List HalfValue)) (n : List (ℕ × ℕ)) → RoomsShow m h f made shut stop w n → HasStop is_stop h → NonePends (length h) (places f)
none_pends m h f made shut stop w n k some p lt pends = ended m p h f made shut stop w n k (λ e. some (sym (kept_stop m h f made shut stop w n k) ∙ e)) lt pends

-- no item waits after a stop, nor where nothing was served
pub none_waits : (m : ℕ) (h : List MemOp) (f : List (ℕ × MemOut)) (made : ℕ) (shut : List Bool) (stop : Option ℕ) (w : List (ℕ × List HalfValue)) (n : List (ℕ × ℕ)) → RoomsShow m h f made shut stop w n → HasStop is_stop h ⊎ (h ≡ []) → w ≡ []
none_waits m h f made shut (Some s) w n k over = k.stands.1
none_waits m h f made shut None w n k (inl some) = absurd (some (sym (kept_stop m h f made shut None w n k)))
none_waits m h f made shut None w n k (inr e) = none_beside w (λ q. k.stands.1.items q ∙ ap (λ l. drop (popped q (counts m l)) (beside q (counts m l).pushes)) e)

-- nor does a pop
pub none_asks : (m : ℕ) (h : List MemOp) (f : List (ℕ × MemOut)) (made : ℕ) (shut : List Bool) (stop : Option ℕ) (w : List (ℕ × List HalfValue)) (n : List (ℕ × ℕ)) → RoomsShow m h f made shut stop w n → HasStop is_stop h ⊎ (h ≡ []) → n ≡ []
none_asks m h f made shut (Some s) w n k over = k.stands.2
none_asks m h f made shut None w n k (inl some) = absurd (some (sym (kept_stop m h f made shut None w n k)))
none_asks m h f made shut None w n k (inr e) = none_beside n (λ q. k.stands.1.asks q ∙ ap (λ l. cond (has q (counts m l).shut) [] (drop (pushed q (counts m l)) (beside q (counts m l).pops))) e ∙ none_either (has q none_yet.shut))
  where
    none_either : (b : Bool) → cond b [] (drop {A = ℕ} 0 []) ≡ []
    none_either true = refl
    none_either false = refl
