-- Where each place below n was fetched, the first operations by place are known.
use Rattle.std.proofs.Common.{◌≡◌, ◌≢◌, ⊎_elim, inl, inr, ℕ, zero, suc, ◌+◌, ◌<◌, ◌≤◌, cond, eq-eqb, ne_eqb, List, [], ◌∷◌, ◌++◌, length, sym, ap, subst, ◌∙◌, refl, arith, append-nil}
use mathlib.Core.Logic.{dite}
use mathlib.Core.Option.{some, none, some-ne-none}
use mathlib.Core.Option as maybe
use native.Mathlib.Decide.{ℕ_discrete}
use lib.ListN.{get_elem?}
use Rattle.demi_port_core.specs.History.{Among, AnyOf, Apart, Each, add, found, ground_from, ground_of, without}
use Rattle.demi_port_core.specs.Trails.{StartsWith}
use Rattle.demi_port_core.proofs.Lists.{apart_without, each_among, one_less}
use Rattle.demi_device.specs.Holding.{Covers}

module _ {A : Type 0} where
  pub any_among : (P : A → Type 0) (l : List A) → AnyOf P l → (a : A) × Among a l × P a
  any_among P [] h = absurd h
  any_among P (x ∷ xs) h = ⊎_elim (λ p. (x, inl refl, p)) (λ t. let k = any_among P xs t in (k.0, inr k.1, k.2)) h

  pub among_any : (P : A → Type 0) (l : List A) (a : A) → Among a l → P a → AnyOf P l
  among_any P [] a h p = absurd h
  among_any P (x ∷ xs) a h p = ⊎_elim (λ e. inl (subst P e p)) (λ t. inr (among_any P xs a t p)) h

  pub any_left : (P : A → Type 0) (xs ys : List A) → AnyOf P xs → AnyOf P (xs ++ ys)
  any_left P [] ys h = absurd h
  any_left P (x ∷ xs) ys h = ⊎_elim inl (λ t. inr (any_left P xs ys t)) h

  pub any_right : (P : A → Type 0) (xs ys : List A) → AnyOf P ys → AnyOf P (xs ++ ys)
  any_right P [] ys h = h
  any_right P (x ∷ xs) ys h = inr (any_right P xs ys h)

  pub each_all : (P : A → Type 0) (l : List A) → ((x : A) → Among x l → P x) → Each P l
  each_all P [] f = tt
  each_all P (x ∷ xs) f = (f x (inl refl), each_all P xs (λ y h. f y (inr h)))

module _ {A : Type 0} where
  any_without : (i p : ℕ) (l : List (ℕ × A)) → p ≢ i → AnyOf (λ (x : ℕ × A). x.0 ≡ p) l → AnyOf (λ (x : ℕ × A). x.0 ≡ p) (without i l)
  any_without i p [] ne h = absurd h
  any_without i p (x ∷ xs) ne h = dite (ℕ_discrete x.0 i)
      (λ same. rw (eq-eqb x.0 i same) (⊎_elim (λ e. absurd (ne (sym e ∙ same))) (λ t. any_without i p xs ne t) h))
      (λ other. rw (ne_eqb x.0 i other) (⊎_elim inl (λ t. inr (any_without i p xs ne t)) h))

  pub covers_next : (n : ℕ) (x : A) (l : List (ℕ × A)) → Covers n l → Among (n, x) l → Covers (n + 1) l
  covers_next n x l all h p small = dite (ℕ_discrete p n) (λ same. subst (λ i. AnyOf (λ (y : ℕ × A). y.0 ≡ i) l) (sym same) (among_any (λ (y : ℕ × A). y.0 ≡ n) l (n, x) h refl)) (λ ne. all p (omega arith))

  -- n different places are n items at least
  covers_length : (n : ℕ) (l : List (ℕ × A)) → Apart l → Covers n l → n ≤ length l
  covers_length zero l apart all = omega arith
  covers_length (suc n) l apart all = let a = any_among (λ (x : ℕ × A). x.0 ≡ n) l (all n (omega arith)) in let fewer = one_less l a.0 apart a.1 in
      let same : length (without n l) ≡ length (without a.0.0 l) = ap (λ i. length (without i l)) (sym a.2) in
      let rest = covers_length n (without n l) (apart_without n l apart) (λ p small. any_without n p l (λ e. omega arith) (all p (omega arith))) in omega arith

  -- with one more that is not among the first n places there are more than n
  pub covers_more : (n : ℕ) (x : ℕ × A) (l : List (ℕ × A)) → Apart l → Covers n l → Among x l → n ≤ x.0 → n < length l
  covers_more n x l apart all h le = let fewer = one_less l x apart h in
      let rest = covers_length n (without x.0 l) (apart_without x.0 l apart) (λ p small. any_without x.0 p l (λ e. omega arith) (all p small)) in omega arith

module _ {D : Type 0} where
  any_found : (p : ℕ) (l : List (ℕ × (ℕ × D))) → AnyOf (λ (x : ℕ × (ℕ × D)). x.0 ≡ p) l → (d : D) × (found p l ≡ some d)
  any_found p [] h = absurd h
  any_found p (x ∷ xs) h = dite (ℕ_discrete x.0 p)
      (λ same. (x.1.1, rw (eq-eqb x.0 p same) refl))
      (λ other. ⊎_elim (λ e. absurd (other e)) (λ t. let k = any_found p xs t in (k.0, rw (ne_eqb x.0 p other) k.1)) h)

  among_found : (p t : ℕ) (d : D) (l : List (ℕ × (ℕ × D))) → Apart l → Among (p, (t, d)) l → found p l ≡ some d
  among_found p t d [] apart h = absurd h
  among_found p t d (x ∷ xs) apart h = ⊎_elim
      (λ e. let same : x.0 ≡ p = ap (λ (z : ℕ × (ℕ × D)). z.0) (sym e) in rw (eq-eqb x.0 p same) (ap (λ (z : ℕ × (ℕ × D)). some z.1.1) (sym e)))
      (λ k. let ne : x.0 ≢ p = λ q. each_among (λ (y : ℕ × (ℕ × D)). y.0 ≢ x.0) xs (p, (t, d)) apart.0 k (sym q) in rw (ne_eqb x.0 p ne) (among_found p t d xs apart.1 k)) h

  ground_at : (l : List (ℕ × (ℕ × D))) (n p k : ℕ) (d : D) → k < n → ((j : ℕ) → j ≤ k → (y : D) × (found (p + j) l ≡ some y)) → found (p + k) l ≡ some d → get_elem? (ground_from n p l) k ≡ some d
  ground_at l zero p k d low all e = absurd (omega arith)
  ground_at l (suc n) p zero d low all e = let z : p + 0 ≡ p = omega arith in rw (ap (λ q. found q l) (sym z) ∙ e) refl
  ground_at l (suc n) p (suc k) d low all e = let z : p + 0 ≡ p = omega arith in let t = all 0 (omega arith) in let w : p + suc k ≡ p + 1 + k = omega arith in
      rw (ap (λ q. found q l) (sym z) ∙ t.1) (ground_at l n (p + 1) k d (omega arith) (λ j le. let u = all (suc j) (omega arith) in let v : p + suc j ≡ p + 1 + j = omega arith in (u.0, ap (λ q. found q l) (sym v) ∙ u.1)) (ap (λ q. found q l) (sym w) ∙ e))

  -- the operation at the place p is the p-th of the first ones
  pub ground_next : (p t : ℕ) (d : D) (l : List (ℕ × (ℕ × D))) → Apart l → Covers p l → Among (p, (t, d)) l → get_elem? (ground_of l) p ≡ some d
  ground_next p t d l apart all h = let more = covers_next p (t, d) l all h in let long = covers_length (p + 1) l apart more in let there : 0 + p ≡ p = omega arith in
      ground_at l (length l) 0 p d (omega arith) (λ j le. let k = any_found j l (more j (omega arith)) in let z : 0 + j ≡ j = omega arith in (k.0, ap (λ q. found q l) z ∙ k.1)) (ap (λ q. found q l) there ∙ among_found p t d l apart h)

module _ {D : Type 0} where
  found_any : (p : ℕ) (l : List (ℕ × (ℕ × D))) (d : D) → found p l ≡ some d → AnyOf (λ (x : ℕ × (ℕ × D)). x.0 ≡ p) l
  found_any p [] d e = absurd (some-ne-none d (sym e))
  found_any p (x ∷ xs) d e = dite (ℕ_discrete x.0 p) (λ same. inl same) (λ other. inr (found_any p xs d (sym (λ q. cond (ne_eqb x.0 p other q) (some x.1.1) (found p xs)) ∙ e)))

  any_ground : (l : List (ℕ × (ℕ × D))) (n p k : ℕ) (d : D) → get_elem? (ground_from n p l) k ≡ some d → AnyOf (λ (x : ℕ × (ℕ × D)). x.0 ≡ p + k) l
  any_ground l zero p k d e = absurd (some-ne-none d (sym e))
  any_ground l (suc n) p k d e = go (λ j. any_ground l n (p + 1) j d) (found p l) k refl e
    where
      go : ((j : ℕ) → get_elem? (ground_from n (p + 1) l) j ≡ some d → AnyOf (λ (x : ℕ × (ℕ × D)). x.0 ≡ p + 1 + j) l) → (o : maybe.Option D) (k : ℕ) → found p l ≡ o → get_elem? (add o (ground_from n (p + 1) l)) k ≡ some d
          → AnyOf (λ (x : ℕ × (ℕ × D)). x.0 ≡ p + k) l
      go rest none k is e = absurd (some-ne-none d (sym e))
      go rest (some y) zero is e = let z : p ≡ p + 0 = omega arith in subst (λ (i : ℕ). AnyOf (λ (x : ℕ × (ℕ × D)). x.0 ≡ i) l) z (found_any p l y is)
      go rest (some y) (suc k) is e = let z : p + 1 + k ≡ p + suc k = omega arith in subst (λ (i : ℕ). AnyOf (λ (x : ℕ × (ℕ × D)). x.0 ≡ i) l) z (rest k e)

  -- where the operation of the next place was not fetched, all that was fetched without a gap was served
  pub served_ground : (l : List (ℕ × (ℕ × D))) (s : List D) → StartsWith (ground_of l) s → (AnyOf (λ (x : ℕ × (ℕ × D)). x.0 ≡ length s) l → ⊥) → ground_of l ≡ s
  served_ground l s starts absent = go starts.0 starts.1
    where
      next : (t : List D) (d : D) (more : List D) → get_elem? (t ++ d ∷ more) (length t) ≡ some d
      next [] d more = refl
      next (x ∷ t) d more = next t d more

      go : (more : List D) → ground_of l ≡ s ++ more → ground_of l ≡ s
      go [] e = e ∙ append-nil s
      go (d ∷ more) e = let z : 0 + length s ≡ length s = omega arith in
          absurd (absent (subst (λ (i : ℕ). AnyOf (λ (x : ℕ × (ℕ × D)). x.0 ≡ i) l) z (any_ground l (length l) 0 (length s) d (ap (λ g. get_elem? g (length s)) e ∙ next s d more))))
