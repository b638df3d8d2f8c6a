-- Lists of pairs by their first part, and places that have one outcome each.
use Rattle.std.proofs.Common.{◌≡◌, ◌≢◌, ℕ, zero, suc, ◌+◌, ◌<◌, ◌≤◌, List, [], ◌∷◌, ◌++◌, length, take, drop, get_or, Some, None, Bool, true, false, cond, refl, sym, ap, ◌∙◌, arith, subst, ◌⊎◌, inl, inr}
use Rattle.std.specs.Prelude.{◌==◌, slice_get}
use borrow.Author.Tests.{eqb-true, eqb-false}
use Rattle.std.proofs.lemmas.Bool.{ne_eqb}
use Rattle.demi_device.specs.Serving.{places}
use Rattle.demi_memq.specs.Counting.{beside}
use Rattle.demi_memq.specs.Steady.{beside_append, append_none}
use Rattle.demi_memq.specs.Rooms.{rest, on, Inside, Pends}

pub self_test : (q : ℕ) → (q == q) ≡ true
self_test q = pick (q == q) refl
  where
    pick : (b : Bool) → (q == q) ≡ b → b ≡ true
    pick true e = refl
    pick false e = absurd (eqb-false q q e refl)

-- by a test
pub by_test : (P : Bool → Type 0) (b : Bool) → (b ≡ true → P true) → (b ≡ false → P false) → P b
by_test P true f g = f refl
by_test P false f g = g refl

-- by whether two numbers are the same
pub by_number : (P : ℕ → Type 0) (q j : ℕ) → P q → (q ≢ j → P j) → P j
by_number P q j same other = pick (q == j) refl
  where
    pick : (b : Bool) → (q == j) ≡ b → P j
    pick true e = subst P (eqb-true q j e) same
    pick false e = other (eqb-false q j e)

module _ {X : Type 0} where
  pub beside_same : (q : ℕ) (x : X) (l : List (ℕ × X)) → beside q (l ++ (q, x) ∷ []) ≡ beside q l ++ x ∷ []
  beside_same q x l = beside_append q l ((q, x) ∷ []) ∙ ap (λ b. beside q l ++ cond b (x ∷ []) []) (self_test q)

  pub beside_other : (q j : ℕ) (x : X) (l : List (ℕ × X)) → q ≢ j → beside j (l ++ (q, x) ∷ []) ≡ beside j l
  beside_other q j x l ne = beside_append j l ((q, x) ∷ []) ∙ ap (λ b. beside j l ++ cond b (x ∷ []) []) (ne_eqb q j ne) ∙ append_none (beside j l)

  pub tail_of : List X → List X
  tail_of [] = []
  tail_of (x ∷ xs) = xs

  pub rest_same : (q : ℕ) (x : X) (r : List X) (l : List (ℕ × X)) → beside q l ≡ x ∷ r → beside q (rest q l) ≡ r
  rest_same q x r [] e = absurd (cc)
  rest_same q x r (d ∷ ds) e =
      by_test (λ b. cond b (d.1 ∷ beside q ds) (beside q ds) ≡ x ∷ r → beside q (cond b ds (d ∷ rest q ds)) ≡ r) (d.0 == q) (λ s e'. cc)
      (λ s e'. ap (λ b. cond b (d.1 ∷ beside q (rest q ds)) (beside q (rest q ds))) s ∙ rest_same q x r ds e') e

  pub rest_other : (q j : ℕ) (l : List (ℕ × X)) → q ≢ j → beside j (rest q l) ≡ beside j l
  rest_other q j [] ne = refl
  rest_other q j (d ∷ ds) ne =
      by_test (λ b. beside j (cond b ds (d ∷ rest q ds)) ≡ beside j (d ∷ ds)) (d.0 == q)
      (λ s. let ne' : d.0 ≢ j = λ e. ne (sym (eqb-true d.0 q s) ∙ e) in sym (ap (λ b. cond b (d.1 ∷ beside j ds) (beside j ds)) (ne_eqb d.0 j ne')))
      (λ s. ap (λ t. cond (d.0 == j) (d.1 ∷ t) t) (rest_other q j ds ne))

  pub rest_inside : (m q : ℕ) (l : List (ℕ × X)) → Inside m l → Inside m (rest q l)
  rest_inside m q [] i = tt
  rest_inside m q (d ∷ ds) i = by_test (λ b. Inside m (cond b ds (d ∷ rest q ds))) (d.0 == q) (λ s. i.1) (λ s. (i.0, rest_inside m q ds i.1))

  pub inside_more : (m q : ℕ) (x : X) (l : List (ℕ × X)) → Inside m l → q < m → Inside m (l ++ (q, x) ∷ [])
  inside_more m q x [] i lt = (lt, tt)
  inside_more m q x (d ∷ ds) i lt = (i.0, inside_more m q x ds i.1 lt)

  pub inside_wider : (m k : ℕ) (l : List (ℕ × X)) → Inside m l → m ≤ k → Inside k l
  inside_wider m k [] i le = tt
  inside_wider m k (d ∷ ds) i le = let lt = i.0 in (omega arith, inside_wider m k ds i.1 le)

  pub rest_length : (q : ℕ) (x : X) (r : List X) (l : List (ℕ × X)) → beside q l ≡ x ∷ r → length (rest q l) + 1 ≡ length l
  rest_length q x r [] e = absurd (cc)
  rest_length q x r (d ∷ ds) e =
      by_test (λ b. cond b (d.1 ∷ beside q ds) (beside q ds) ≡ x ∷ r → length (cond b ds (d ∷ rest q ds)) + 1 ≡ length (d ∷ ds)) (d.0 == q) (λ s e'. omega arith)
      (λ s e'. let h = rest_length q x r ds e' in omega arith) e

  pub drop_head : (k : ℕ) (l r : List X) (x : X) → drop k l ≡ x ∷ r → (slice_get l k ≡ Some x) × (drop (k + 1) l ≡ r) × (k < length l)
  drop_head zero [] r x e = absurd (cc)
  drop_head zero (y ∷ ys) r x e = (cc, cc, omega arith)
  drop_head (suc k) [] r x e = absurd (cc)
  drop_head (suc k) (y ∷ ys) r x e = let h = drop_head k ys r x e in (h.0, let n : suc k + 1 ≡ suc (k + 1) = omega arith in ap (λ i. drop i (y ∷ ys)) n ∙ h.1, let lt = h.2 in omega arith)

  pub drop_none : (k : ℕ) (l : List X) → length l ≤ k → drop k l ≡ []
  drop_none zero [] le = refl
  drop_none zero (y ∷ ys) le = absurd (omega arith)
  drop_none (suc k) [] le = refl
  drop_none (suc k) (y ∷ ys) le = drop_none k ys (omega arith)

  pub drop_all : (k : ℕ) (l : List X) → drop k l ≡ [] → length l ≤ k
  drop_all zero [] e = omega arith
  drop_all zero (y ∷ ys) e = absurd (cc)
  drop_all (suc k) [] e = omega arith
  drop_all (suc k) (y ∷ ys) e = let h = drop_all k ys e in omega arith

  pub get_drop : (k j : ℕ) (l : List X) (x : X) → slice_get (drop k l) j ≡ Some x → slice_get l (k + j) ≡ Some x
  get_drop zero j l x e = let n : 0 + j ≡ j = omega arith in rw n e
  get_drop (suc k) j [] x e = absurd (cc)
  get_drop (suc k) j (y ∷ ys) x e = let n : suc k + j ≡ suc (k + j) = omega arith in rw n (get_drop k j ys x e)

  pub get_none : (l : List X) (k : ℕ) → length l ≤ k → slice_get l k ≡ None
  get_none [] k le = refl
  get_none (y ∷ ys) zero le = absurd (omega arith)
  get_none (y ∷ ys) (suc k) le = get_none ys k (omega arith)

  pub get_last : (l : List X) (x : X) → slice_get (l ++ x ∷ []) (length l) ≡ Some x
  get_last [] x = refl
  get_last (y ∷ ys) x = get_last ys x

  pub no_outcome : (p : ℕ) (l : List (ℕ × X)) → length (beside p l) ≡ 0 → Pends p l
  no_outcome p [] e = tt
  no_outcome p (d ∷ ds) e =
      by_test (λ b. length (cond b (d.1 ∷ beside p ds) (beside p ds)) ≡ 0 → Pends p (d ∷ ds)) (d.0 == p) (λ s e'. absurd (omega arith))
      (λ s e'. (eqb-false d.0 p s, no_outcome p ds e')) e

  pub has_none : (p : ℕ) (l : List (ℕ × X)) → Pends p l → length (beside p l) ≡ 0
  has_none p [] e = refl
  has_none p (d ∷ ds) e = let t : (d.0 == p) ≡ false = ne_eqb d.0 p e.0 in rw t (has_none p ds e.1)

  sums : ℕ → List (ℕ × X) → ℕ
  sums zero l = 0
  sums (suc k) l = sums k l + length (beside k l)

pub on_more : (j q p : ℕ) (n : List (ℕ × ℕ)) → on j (n ++ (q, p) ∷ []) ≡ on j n + cond (p == j) 1 0
on_more j q p [] = omega arith
on_more j q p (e ∷ es) = let h = on_more j q p es in omega arith

pub on_rest : (j q p : ℕ) (r : List ℕ) (n : List (ℕ × ℕ)) → beside q n ≡ p ∷ r → on j n ≡ cond (p == j) 1 0 + on j (rest q n)
on_rest j q p r [] e = absurd (cc)
on_rest j q p r (d ∷ ds) e =
    by_test (λ b. cond b (d.1 ∷ beside q ds) (beside q ds) ≡ p ∷ r → on j (d ∷ ds) ≡ cond (p == j) 1 0 + on j (cond b ds (d ∷ rest q ds))) (d.0 == q)
    (λ s e'. let same : d.1 ≡ p = cc in ap (λ k. cond (k == j) 1 0 + on j ds) same) (λ s e'. let h = on_rest j q p r ds e' in omega arith) e

module _ {X : Type 0} where
  pub got_any : (l : List X) (i : ℕ) (d e : X) → i < length l → get_or l i d ≡ get_or l i e
  got_any [] i d e lt = absurd (omega arith)
  got_any (x ∷ xs) zero d e lt = refl
  got_any (x ∷ xs) (suc i) d e lt = got_any xs i d e (omega arith)

  pub none_beside : (l : List (ℕ × X)) → ((q : ℕ) → beside q l ≡ []) → l ≡ []
  none_beside [] f = refl
  none_beside (e ∷ es) f = let a = ap (λ b. cond b (e.1 ∷ beside e.0 es) (beside e.0 es)) (self_test e.0) in let bad : e.1 ∷ beside e.0 es ≡ [] = sym a ∙ f e.0 in absurd (cc)

  -- nothing stands beside the first n numbers, nor beside the others
  pub none_at_all : (n : ℕ) (l : List (ℕ × X)) → ((q : ℕ) → q < n → beside q l ≡ []) → ((q : ℕ) → n ≤ q → beside q l ≡ []) → l ≡ []
  none_at_all n l f g = none_beside l (λ q. elim (below_or n q) [ inl lt ↦ f q lt | inr le ↦ g q le ])
    where
      below_or : (n q : ℕ) → (q < n) ⊎ (n ≤ q)
      below_or n q = grind arith

pub places_append : {X : Type 0} (f g : List (ℕ × X)) → places (f ++ g) ≡ places f ++ places g
places_append [] g = refl
places_append (e ∷ es) g = ap (λ l. e.0 ∷ l) (places_append es g)
