-- The rings and the counts, one operation further.
use Rattle.std.proofs.Common.{◌≡◌, ◌≢◌, ℕ, zero, suc, ◌+◌, ◌-◌, ◌<◌, ◌≤◌, List, [], ◌∷◌, ◌++◌, length, drop, set, Bool, true, false, cond, refl, sym, ap, ◌∙◌, arith, subst, length-append, length-drop, length-set, get_or-set_same, get_or-set_other}
use Rattle.std.specs.Prelude.{◌==◌, ◌||◌, slice_index_or}
use Rattle.std.proofs.lemmas.List.{drop-append-le}
use Rattle.std.proofs.lemmas.Bool.{ne_eqb}
use Rattle.demi_heap.specs.Seen.{HalfValue}
use Rattle.demi_memq.specs.Counting.{beside, has, Counts, pushed, popped, waiting}
use Rattle.demi_memq.specs.Rooms.{rest, Inside, Agrees}
use Rattle.demi_memq.proofs.Lists.{self_test, by_test, by_number, beside_same, beside_other, rest_same, rest_other, rest_inside, inside_more, inside_wider, drop_head, drop_none, drop_all}

module _ {X : Type 0} where
  sums : ℕ → List (ℕ × X) → ℕ
  sums zero l = 0
  sums (suc k) l = sums k l + length (beside k l)

  sums_out : (k q : ℕ) (x : X) (l : List (ℕ × X)) → k ≤ q → sums k ((q, x) ∷ l) ≡ sums k l
  unfolding sums
  sums_out zero q x l le = refl
  sums_out (suc k) q x l le = let h = sums_out k q x l (omega arith) in let ne : q ≢ k = omega arith in ap (λ b. sums k ((q, x) ∷ l) + length (cond b (x ∷ beside k l) (beside k l))) (ne_eqb q k ne) ∙ ap (λ s. s + length (beside k l)) h

  sums_in : (k q : ℕ) (x : X) (l : List (ℕ × X)) → q < k → sums k ((q, x) ∷ l) ≡ sums k l + 1
  unfolding sums
  sums_in zero q x l lt = absurd (omega arith)
  sums_in (suc k) q x l lt =
      by_number (λ k. (q < k → sums k ((q, x) ∷ l) ≡ sums k l + 1) → q < suc k → sums k ((q, x) ∷ l) + length (cond (q == k) (x ∷ beside k l) (beside k l)) ≡ sums k l + length (beside k l) + 1) q k
      (λ ih lt'. let a = sums_out q q x l (omega arith) in let b : length (cond (q == q) (x ∷ beside q l) (beside q l)) ≡ length (beside q l) + 1 = ap (λ b. length (cond b (x ∷ beside q l) (beside q l))) (self_test q) ∙ (let n : suc (length (beside q l)) ≡ length (beside q l) + 1 = omega arith in n) in omega arith)
      (λ ne ih lt'. let a = ih (omega arith) in let b = ap (λ b. length (cond b (x ∷ beside k l) (beside k l))) (ne_eqb q k ne) in omega arith)
      (λ less. sums_in k q x l less) lt

sums_none : (X : Type 0) (k : ℕ) → sums {X = X} k [] ≡ 0
unfolding sums
sums_none X zero = refl
sums_none X (suc k) = let h = sums_none X k in omega arith

module _ {X : Type 0} where
  parted : (k : ℕ) (l : List (ℕ × X)) → Inside k l → sums k l ≡ length l
  parted k [] i = sums_none X k
  parted k (e ∷ es) i = let h = parted k es i.1 in let a = sums_in k e.0 e.1 es i.0 in omega arith

waits_sums : (k : ℕ) (t : Counts) (w : List (ℕ × List HalfValue)) → ((q : ℕ) → beside q w ≡ drop (popped q t) (beside q t.pushes)) → waiting k t ≡ sums k w
unfolding sums
waits_sums zero t w is = refl
waits_sums (suc k) t w is = let h = waits_sums k t w is in let a : length (beside k w) ≡ length (beside k t.pushes) - popped k t = ap length (is k) ∙ length-drop (popped k t) (beside k t.pushes) in omega arith

none_if : (b : Bool) (l : List ℕ) → l ≡ [] → cond b [] l ≡ []
none_if true l e = refl
none_if false l e = e

pub waits : (t : Counts) (made : ℕ) (shut : List Bool) (w : List (ℕ × List HalfValue)) (n : List (ℕ × ℕ)) → Agrees t made shut w n → waiting t.made t ≡ length w
waits t made shut w n g = waits_sums t.made t w g.items ∙ parted t.made w (subst (λ k. Inside k w) g.made_is g.inside)

pub a_queue : (t : Counts) (made : ℕ) (shut : List Bool) (w : List (ℕ × List HalfValue)) (n : List (ℕ × ℕ)) → Agrees t made shut w n → made < 256 → Agrees (record t { made = t.made + 1 }) (made + 1) shut w n
a_queue t made shut w n g lt = record { made_is = ap (λ k. k + 1) g.made_is; few = omega arith; wide = g.wide; shut_is = g.shut_is; items = g.items; asks = g.asks; inside = inside_wider made (made + 1) w g.inside (omega arith) }

-- a pop that waits is of a queue that is not closed
pub open_asks : (q : ℕ) (t : Counts) (n : List (ℕ × ℕ)) (r : List ℕ) (p : ℕ) → beside q n ≡ cond (has q t.shut) [] (drop (pushed q t) (beside q t.pops)) → beside q n ≡ p ∷ r → (has q t.shut ≡ false) × (drop (pushed q t) (beside q t.pops) ≡ p ∷ r)
open_asks q t n r p is e =
    by_test (λ b. has q t.shut ≡ b → beside q n ≡ cond b [] (drop (pushed q t) (beside q t.pops)) → (has q t.shut ≡ false) × (drop (pushed q t) (beside q t.pops) ≡ p ∷ r)) (has q t.shut) (λ _ s is'. absurd (cc)) (λ _ s is'. (s, sym is' ∙ e)) refl is

pushed_same : (q : ℕ) (x : List HalfValue) (t : Counts) → length (beside q (t.pushes ++ (q, x) ∷ [])) ≡ length (beside q t.pushes) + 1
pushed_same q x t = ap length (beside_same q x t.pushes) ∙ length-append (beside q t.pushes) (x ∷ [])

-- where no pop waits, pushes are not fewer than pops
ahead : (q : ℕ) (t : Counts) (n : List (ℕ × ℕ)) → has q t.shut ≡ false → beside q n ≡ cond (has q t.shut) [] (drop (pushed q t) (beside q t.pops)) → beside q n ≡ [] → popped q t ≤ pushed q t
ahead q t n open_ is e = drop_all (pushed q t) (beside q t.pops) (sym (subst (λ b. beside q n ≡ cond b [] (drop (pushed q t) (beside q t.pops))) open_ is) ∙ e)

pub a_push_wait : (q : ℕ) (x : List HalfValue) (t : Counts) (made : ℕ) (shut : List Bool) (w : List (ℕ × List HalfValue)) (n : List (ℕ × ℕ)) → Agrees t made shut w n → beside q n ≡ [] → has q t.shut ≡ false → q < made → Agrees (record t { pushes = t.pushes ++ (q, x) ∷ [] }) made shut (w ++ (q, x) ∷ []) n
a_push_wait q x t made shut w n g idle open_ lt =
    record {
      made_is = g.made_is;
      few = g.few;
      wide = g.wide;
      shut_is = g.shut_is;
      items = λ j. by_number (λ j. beside j (w ++ (q, x) ∷ []) ≡ drop (popped j t) (beside j (t.pushes ++ (q, x) ∷ []))) q j
          (let le = ahead q t n open_ (g.asks q) idle in beside_same q x w ∙ ap (λ l. l ++ x ∷ []) (g.items q) ∙ sym (drop-append-le (popped q t) (beside q t.pushes) (x ∷ []) le) ∙ ap (drop (popped q t)) (sym (beside_same q x t.pushes)))
          (λ ne. beside_other q j x w ne ∙ g.items j ∙ ap (drop (popped j t)) (sym (beside_other q j x t.pushes ne)));
      asks = λ j. by_number (λ j. beside j n ≡ cond (has j t.shut) [] (drop (length (beside j (t.pushes ++ (q, x) ∷ []))) (beside j t.pops))) q j
          (let le = ahead q t n open_ (g.asks q) idle in let more = pushed_same q x t in idle ∙ sym (none_if (has q t.shut) _ (drop_none _ (beside q t.pops) (omega arith))))
          (λ ne. g.asks j ∙ ap (λ l. cond (has j t.shut) [] (drop (length l) (beside j t.pops))) (sym (beside_other q j x t.pushes ne)));
      inside = inside_more made q x w g.inside lt;
    }

pub a_push_meet : (q : ℕ) (x : List HalfValue) (p : ℕ) (r : List ℕ) (t : Counts) (made : ℕ) (shut : List Bool) (w : List (ℕ × List HalfValue)) (n : List (ℕ × ℕ)) → Agrees t made shut w n → beside q n ≡ p ∷ r → Agrees (record t { pushes = t.pushes ++ (q, x) ∷ [] }) made shut w (rest q n)
a_push_meet q x p r t made shut w n g e =
    let o = open_asks q t n r p (g.asks q) e in let d = drop_head (pushed q t) (beside q t.pops) r p o.1 in
    record {
      made_is = g.made_is;
      few = g.few;
      wide = g.wide;
      shut_is = g.shut_is;
      items = λ j. by_number (λ j. beside j w ≡ drop (popped j t) (beside j (t.pushes ++ (q, x) ∷ []))) q j
          (let more = pushed_same q x t in let lt = d.2 in g.items q ∙ drop_none (popped q t) (beside q t.pushes) (omega arith) ∙ sym (drop_none (popped q t) (beside q (t.pushes ++ (q, x) ∷ [])) (omega arith)))
          (λ ne. g.items j ∙ ap (drop (popped j t)) (sym (beside_other q j x t.pushes ne)));
      asks = λ j. by_number (λ j. beside j (rest q n) ≡ cond (has j t.shut) [] (drop (length (beside j (t.pushes ++ (q, x) ∷ []))) (beside j t.pops))) q j
          (rest_same q p r n e ∙ sym d.1 ∙ ap (λ k. drop k (beside q t.pops)) (sym (pushed_same q x t)) ∙ ap (λ b. cond b [] (drop (length (beside q (t.pushes ++ (q, x) ∷ []))) (beside q t.pops))) (sym o.0))
          (λ ne. rest_other q j n ne ∙ g.asks j ∙ ap (λ l. cond (has j t.shut) [] (drop (length l) (beside j t.pops))) (sym (beside_other q j x t.pushes ne)));
      inside = g.inside;
    }

popped_same : (q m : ℕ) (t : Counts) → length (beside q (t.pops ++ (q, m) ∷ [])) ≡ length (beside q t.pops) + 1
popped_same q m t = ap length (beside_same q m t.pops) ∙ length-append (beside q t.pops) (m ∷ [])

pub a_pop_item : (q m : ℕ) (x : List HalfValue) (r : List (List HalfValue)) (t : Counts) (made : ℕ) (shut : List Bool) (w : List (ℕ × List HalfValue)) (n : List (ℕ × ℕ)) → Agrees t made shut w n → beside q w ≡ x ∷ r → Agrees (record t { pops = t.pops ++ (q, m) ∷ [] }) made shut (rest q w) n
a_pop_item q m x r t made shut w n g e =
    let d = drop_head (popped q t) (beside q t.pushes) r x (sym (g.items q) ∙ e) in
    record {
      made_is = g.made_is;
      few = g.few;
      wide = g.wide;
      shut_is = g.shut_is;
      items = λ j. by_number (λ j. beside j (rest q w) ≡ drop (length (beside j (t.pops ++ (q, m) ∷ []))) (beside j t.pushes)) q j
          (rest_same q x r w e ∙ sym d.1 ∙ ap (λ k. drop k (beside q t.pushes)) (sym (popped_same q m t)))
          (λ ne. rest_other q j w ne ∙ g.items j ∙ ap (λ l. drop (length l) (beside j t.pushes)) (sym (beside_other q j m t.pops ne)));
      asks = λ j. by_number (λ j. beside j n ≡ cond (has j t.shut) [] (drop (pushed j t) (beside j (t.pops ++ (q, m) ∷ [])))) q j
          (let lt = d.2 in let more = popped_same q m t in g.asks q ∙ none_if (has q t.shut) _ (drop_none (pushed q t) (beside q t.pops) (omega arith)) ∙ sym (none_if (has q t.shut) _ (drop_none (pushed q t) (beside q (t.pops ++ (q, m) ∷ [])) (omega arith))))
          (λ ne. g.asks j ∙ ap (λ l. cond (has j t.shut) [] (drop (pushed j t) l)) (sym (beside_other q j m t.pops ne)));
      inside = rest_inside made q w g.inside;
    }

pub a_pop_shut : (q m : ℕ) (t : Counts) (made : ℕ) (shut : List Bool) (w : List (ℕ × List HalfValue)) (n : List (ℕ × ℕ)) → Agrees t made shut w n → beside q w ≡ [] → has q t.shut ≡ true → Agrees (record t { pops = t.pops ++ (q, m) ∷ [] }) made shut w n
a_pop_shut q m t made shut w n g e closed =
    let le = drop_all (popped q t) (beside q t.pushes) (sym (g.items q) ∙ e) in
    record {
      made_is = g.made_is;
      few = g.few;
      wide = g.wide;
      shut_is = g.shut_is;
      items = λ j. by_number (λ j. beside j w ≡ drop (length (beside j (t.pops ++ (q, m) ∷ []))) (beside j t.pushes)) q j
          (let more = popped_same q m t in e ∙ sym (drop_none _ (beside q t.pushes) (omega arith)))
          (λ ne. g.items j ∙ ap (λ l. drop (length l) (beside j t.pushes)) (sym (beside_other q j m t.pops ne)));
      asks = λ j. by_number (λ j. beside j n ≡ cond (has j t.shut) [] (drop (pushed j t) (beside j (t.pops ++ (q, m) ∷ [])))) q j
          (g.asks q ∙ ap (λ b. cond b [] (drop (pushed q t) (beside q t.pops))) closed ∙ ap (λ b. cond b [] (drop (pushed q t) (beside q (t.pops ++ (q, m) ∷ [])))) (sym closed))
          (λ ne. g.asks j ∙ ap (λ l. cond (has j t.shut) [] (drop (pushed j t) l)) (sym (beside_other q j m t.pops ne)));
      inside = g.inside;
    }

pub a_pop_wait : (q m : ℕ) (t : Counts) (made : ℕ) (shut : List Bool) (w : List (ℕ × List HalfValue)) (n : List (ℕ × ℕ)) → Agrees t made shut w n → beside q w ≡ [] → has q t.shut ≡ false → Agrees (record t { pops = t.pops ++ (q, m) ∷ [] }) made shut w (n ++ (q, m) ∷ [])
a_pop_wait q m t made shut w n g e open_ =
    let le = drop_all (popped q t) (beside q t.pushes) (sym (g.items q) ∙ e) in
    record {
      made_is = g.made_is;
      few = g.few;
      wide = g.wide;
      shut_is = g.shut_is;
      items = λ j. by_number (λ j. beside j w ≡ drop (length (beside j (t.pops ++ (q, m) ∷ []))) (beside j t.pushes)) q j
          (let more = popped_same q m t in e ∙ sym (drop_none _ (beside q t.pushes) (omega arith)))
          (λ ne. g.items j ∙ ap (λ l. drop (length l) (beside j t.pushes)) (sym (beside_other q j m t.pops ne)));
      asks = λ j. by_number (λ j. beside j (n ++ (q, m) ∷ []) ≡ cond (has j t.shut) [] (drop (pushed j t) (beside j (t.pops ++ (q, m) ∷ [])))) q j
          (beside_same q m n ∙ ap (λ l. l ++ m ∷ []) (g.asks q ∙ ap (λ b. cond b [] (drop (pushed q t) (beside q t.pops))) open_) ∙ sym (drop-append-le (pushed q t) (beside q t.pops) (m ∷ []) le) ∙ ap (drop (pushed q t)) (sym (beside_same q m t.pops)) ∙ ap (λ b. cond b [] (drop (pushed q t) (beside q (t.pops ++ (q, m) ∷ [])))) (sym open_))
          (λ ne. beside_other q j m n ne ∙ g.asks j ∙ ap (λ l. cond (has j t.shut) [] (drop (pushed j t) l)) (sym (beside_other q j m t.pops ne)));
      inside = g.inside;
    }

pub a_close : (q : ℕ) (t : Counts) (made : ℕ) (shut : List Bool) (w : List (ℕ × List HalfValue)) (n n' : List (ℕ × ℕ)) → Agrees t made shut w n → q < made → beside q n' ≡ [] → ((j : ℕ) → q ≢ j → beside j n' ≡ beside j n) → Agrees (record t { shut = q ∷ t.shut }) made (set shut q true) w n'
a_close q t made shut w n n' g lt gone same =
    record {
      made_is = g.made_is;
      few = g.few;
      wide = length-set shut q true ∙ g.wide;
      shut_is = λ j. by_number (λ j. j < 256 → slice_index_or (set shut q true) j false ≡ ((q == j) || has j t.shut)) q j
          (λ lt'. let few = g.few in let wide = g.wide in let in_range : q < length shut = omega arith in get_or-set_same shut q true false in_range ∙ ap (λ b. b || has q t.shut) (sym (self_test q)))
          (λ ne lt'. get_or-set_other shut q j true false (λ e. ne (sym e)) ∙ g.shut_is j lt' ∙ ap (λ b. b || has j t.shut) (sym (ne_eqb q j ne)));
      items = g.items;
      asks = λ j. by_number (λ j. beside j n' ≡ cond ((q == j) || has j t.shut) [] (drop (pushed j t) (beside j t.pops))) q j
          (gone ∙ ap (λ b. cond (b || has q t.shut) [] (drop (pushed q t) (beside q t.pops))) (sym (self_test q)))
          (λ ne. same j ne ∙ g.asks j ∙ ap (λ b. cond (b || has j t.shut) [] (drop (pushed j t) (beside j t.pops))) (sym (ne_eqb q j ne)));
      inside = g.inside;
    }
