-- Lists of which each place of the second is so beside the same place of the first.
use Rattle.std.proofs.Common.{◌≡◌, ℕ, zero, suc, ◌+◌, ◌<◌, ◌≤◌, ◌⊎◌, inl, inr, All, List, [], ◌∷◌, ◌++◌, length, length-append, get_or, set, refl, ap, sym, subst, ◌∙◌, arith}
use Rattle.demi_bench.specs.Linking.{ArePaired}

module _ {A : Type 0} where
  before_end : (xs ys : List A) (k : ℕ) (d : A) → k < length xs → get_or (xs ++ ys) k d ≡ get_or xs k d
  before_end [] ys k d low = absurd (omega (arith, low))
  before_end (x ∷ xs) ys zero d low = refl
  before_end (x ∷ xs) ys (suc k) d low = before_end xs ys k d (omega (arith, low))

  at_end : (xs : List A) (x d : A) → get_or (xs ++ x ∷ []) (length xs) d ≡ x
  at_end [] x d = refl
  at_end (y ∷ xs) x d = at_end xs x d

  set_length : (xs : List A) (k : ℕ) (q : A) → length (set xs k q) ≡ length xs
  set_length [] k q = refl
  set_length (x ∷ xs) zero q = refl
  set_length (x ∷ xs) (suc k) q = ap suc (set_length xs k q)

  set_there : (xs : List A) (k : ℕ) (q d : A) → k < length xs → get_or (set xs k q) k d ≡ q
  set_there [] k q d low = absurd (omega (arith, low))
  set_there (x ∷ xs) zero q d low = refl
  set_there (x ∷ xs) (suc k) q d low = set_there xs k q d (omega (arith, low))

  set_other : (xs : List A) (j k : ℕ) (q d : A) → (j ≡ k → ⊥) → get_or (set xs k q) j d ≡ get_or xs j d
  set_other [] j k q d ne = refl
  set_other (x ∷ xs) zero zero q d ne = absurd (ne refl)
  set_other (x ∷ xs) zero (suc k) q d ne = refl
  set_other (x ∷ xs) (suc j) zero q d ne = refl
  set_other (x ∷ xs) (suc j) (suc k) q d ne = set_other xs j k q d (λ e. ne (ap suc e))

  pub same_there : (xs : List A) (k : ℕ) (d e : A) → k < length xs → get_or xs k d ≡ get_or xs k e
  same_there [] k d e low = absurd (omega (arith, low))
  same_there (x ∷ xs) zero d e low = refl
  same_there (x ∷ xs) (suc k) d e low = same_there xs k d e (omega (arith, low))

here_or_not : (j k : ℕ) → (j ≡ k) ⊎ (j ≡ k → ⊥)
here_or_not zero zero = inl refl
here_or_not zero (suc k) = inr (λ e. absurd (omega (arith, e)))
here_or_not (suc j) zero = inr (λ e. absurd (omega (arith, e)))
here_or_not (suc j) (suc k) = elim (here_or_not j k) [ inl e ↦ inl (ap suc e) | inr ne ↦ inr (λ e. ne (omega (arith, e))) ]

pub all_push : {A : Type 0} (P : A → Type 0) (xs : List A) (x : A) → All P xs → P x → All P (xs ++ x ∷ [])
all_push P xs x all p i d low = let e = length-append xs (x ∷ []) in elim (here_or_not i (length xs)) [
  | inl at ↦ subst (λ j. P (get_or (xs ++ x ∷ []) j d)) (sym at) (subst P (sym (at_end xs x d)) p)
  | inr ne ↦ let small : i < length xs = omega (arith, ne, low, e) in subst P (sym (before_end xs (x ∷ []) i d small)) (all i d small)
]

module _ {A B : Type 0} (R : A → B → Type 0) where
  pub paired_none : ArePaired R [] []
  paired_none = (refl, λ i x y low. absurd (omega (arith, low)))

  pub paired_push : (xs : List A) (ys : List B) (x : A) (y : B) → ArePaired R xs ys → R x y → ArePaired R (xs ++ x ∷ []) (ys ++ y ∷ [])
  paired_push xs ys x y p r =
      let lx = length-append xs (x ∷ []) in let ly = length-append ys (y ∷ []) in let e = p.0 in (
        omega (arith, lx, ly, e),
        λ i a b low. elim (here_or_not i (length xs)) [
          | inl at ↦ subst (λ j. R (get_or (xs ++ x ∷ []) j a) (get_or (ys ++ y ∷ []) j b)) (sym at)
              (subst (λ z. R z (get_or (ys ++ y ∷ []) (length xs) b)) (sym (at_end xs x a)) (subst (R x) (sym (ap (λ j. get_or (ys ++ y ∷ []) j b) (sym e) ∙ at_end ys y b)) r))
          | inr ne ↦ let small : i < length xs = omega (arith, ne, low, lx) in
              subst (λ z. R z (get_or (ys ++ y ∷ []) i b)) (sym (before_end xs (x ∷ []) i a small)) (subst (R (get_or xs i a)) (sym (before_end ys (y ∷ []) i b (omega (arith, small, e)))) (p.1 i a b small))
        ],
      )

  pub paired_pop : (xs : List A) (ys : List B) (x : A) (y : B) → ArePaired R (xs ++ x ∷ []) (ys ++ y ∷ []) → ArePaired R xs ys × R x y
  paired_pop xs ys x y p =
      let lx = length-append xs (x ∷ []) in let ly = length-append ys (y ∷ []) in let e = p.0 in let same : length ys ≡ length xs = omega (arith, lx, ly, e) in (
        (
          same,
          λ i a b small. subst (λ z. R z (get_or ys i b)) (before_end xs (x ∷ []) i a small) (subst (R (get_or (xs ++ x ∷ []) i a)) (before_end ys (y ∷ []) i b (omega (arith, small, same))) (p.1 i a b (omega (arith, small, lx)))),
        ),
        subst (λ z. R z y) (at_end xs x x) (subst (R (get_or (xs ++ x ∷ []) (length xs) x)) (ap (λ j. get_or (ys ++ y ∷ []) j y) (sym same) ∙ at_end ys y y) (p.1 (length xs) x y (omega (arith, lx)))),
      )

  pub paired_set : (xs : List A) (ys : List B) (j : ℕ) (y : B) → ArePaired R xs ys → ((x : A) → R (get_or xs j x) y) → ArePaired R xs (set ys j y)
  paired_set xs ys j y p r = let e = p.0 in (
    set_length ys j y ∙ e,
    λ i a b low. elim (here_or_not i j) [
      | inl at ↦ subst (λ k. R (get_or xs k a) (get_or (set ys j y) k b)) (sym at) (subst (R (get_or xs j a)) (sym (set_there ys j y b (omega (arith, low, e, at)))) (r a))
      | inr ne ↦ subst (R (get_or xs i a)) (sym (set_other ys i j y b ne)) (p.1 i a b low)
    ],
  )
