-- Facts on lists, by place.
use Rattle.std.proofs.Common.{◌≡◌, ℕ, zero, suc, ◌+◌, ◌<◌, List, [], ◌∷◌, ◌++◌, length, take, flat_map, Some, refl, arith, ◌∙◌, ap, subst}
use Rattle.std.specs.Prelude.{slice_get}
use Rattle.std.specs.List.{AllByRecursion}
use Rattle.demi_served.specs.Served.{Pairwise, Placed}

pub some_is : {X : Type 0} {x y : X} → Some x ≡ Some y → x ≡ y
some_is h = cc

module _ {X : Type 0} where
  -- P of each, by place
  pub all_by : (P : X → Type 0) (xs : List X) → ((i : ℕ) (x : X) → slice_get xs i ≡ Some x → P x)
      → AllByRecursion P xs
  all_by P [] h = tt
  all_by P (x ∷ xs) h = (h 0 x refl, all_by P xs (λ i y e. h (suc i) y e))

  pub all_at : (P : X → Type 0) (xs : List X) (i : ℕ) (x : X) → AllByRecursion P xs → slice_get xs i ≡ Some x → P x
  all_at P [] i x h e = absurd (cc)
  all_at P (y ∷ xs) zero x h e = subst P (some_is e) h.0
  all_at P (y ∷ xs) (suc i) x h e = all_at P xs i x h.1 e

  pub placed_by : (R : ℕ → X → Type 0) (base : ℕ) (xs : List X)
      → ((i : ℕ) (x : X) → slice_get xs i ≡ Some x → R (base + i) x) → Placed R base xs
  placed_by R base [] h = tt
  placed_by R base (x ∷ xs) h =
      let zero_more : base + 0 ≡ base = omega arith in
      (subst (λ n. R n x) zero_more (h 0 x refl), placed_by R (base + 1) xs (λ i y e. let n : base + suc i ≡ base + 1 + i = omega arith in subst (λ m. R m y) n (h (suc i) y e)))

  pub placed_at : (R : ℕ → X → Type 0) (base : ℕ) (xs : List X) (i : ℕ) (x : X) → Placed R base xs
      → slice_get xs i ≡ Some x → R (base + i) x
  placed_at R base [] i x h e = absurd (cc)
  placed_at R base (y ∷ xs) zero x h e = let n : base ≡ base + 0 = omega arith in subst (λ m. R m x) n (subst (R base) (some_is e) h.0)
  placed_at R base (y ∷ xs) (suc i) x h e = let n : base + 1 + i ≡ base + suc i = omega arith in subst (λ m. R m x) n (placed_at R (base + 1) xs i x h.1 e)

  pub pairwise_by : (R : X → X → Type 0) (xs : List X)
      → ((i j : ℕ) (x y : X) → i < j → slice_get xs i ≡ Some x → slice_get xs j ≡ Some y → R x y) → Pairwise R xs
  pairwise_by R [] h = tt
  pairwise_by R (x ∷ xs) h =
      (all_by (R x) xs (λ j y e. h 0 (suc j) x y (omega arith) refl e), pairwise_by R xs (λ i j y z less d e. h (suc i) (suc j) y z (omega arith) d e))

  pub pairwise_at : (R : X → X → Type 0) (xs : List X) (i j : ℕ) (x y : X) → Pairwise R xs → i < j
      → slice_get xs i ≡ Some x → slice_get xs j ≡ Some y → R x y
  pairwise_at R [] i j x y h less d e = absurd (cc)
  pairwise_at R (z ∷ xs) i zero x y h less d e = absurd (omega arith)
  pairwise_at R (z ∷ xs) zero (suc j) x y h less d e = all_at (R x) xs j y (subst (λ w. AllByRecursion (R w) xs) (some_is d) h.0) e
  pairwise_at R (z ∷ xs) (suc i) (suc j) x y h less d e = pairwise_at R xs i j x y h.1 (omega arith) d e

  pub all_append : (P : X → Type 0) (xs ys : List X) → AllByRecursion P xs → AllByRecursion P ys
      → AllByRecursion P (xs ++ ys)
  all_append P [] ys h k = k
  all_append P (x ∷ xs) ys h k = (h.0, all_append P xs ys h.1 k)

  pub pairwise_append : (R : X → X → Type 0) (xs ys : List X) → Pairwise R xs → Pairwise R ys
      → AllByRecursion (λ x. AllByRecursion (R x) ys) xs → Pairwise R (xs ++ ys)
  pairwise_append R [] ys h k c = k
  pairwise_append R (x ∷ xs) ys h k c = (all_append (R x) xs ys h.0 c.0, pairwise_append R xs ys h.1 k c.1)

  pub get_within : (xs : List X) (i : ℕ) (x : X) → slice_get xs i ≡ Some x → i < length xs
  get_within [] i x e = absurd (cc)
  get_within (y ∷ xs) zero x e = omega arith
  get_within (y ∷ xs) (suc i) x e = let h = get_within xs i x e in omega arith

  pub get_left : (xs ys : List X) (i : ℕ) (x : X) → slice_get xs i ≡ Some x → slice_get (xs ++ ys) i ≡ Some x
  get_left [] ys i x e = absurd (cc)
  get_left (y ∷ xs) ys zero x e = e
  get_left (y ∷ xs) ys (suc i) x e = get_left xs ys i x e

  -- the list, parted at a place
  pub record PartedAt (xs : List X) (p : ℕ) (x : X) : Type 0 where
    pub after : List X
    pub whole : xs ≡ take p xs ++ x ∷ after
    pub long : length (take p xs) ≡ p
    pub next : take (p + 1) xs ≡ take p xs ++ x ∷ []

  pub parted : (xs : List X) (p : ℕ) (x : X) → slice_get xs p ≡ Some x → PartedAt xs p x
  parted [] p x e = absurd (cc)
  parted (y ∷ xs) zero x e = record {
    after = xs;
    whole = ap (λ z. z ∷ xs) (some_is e);
    long = refl;
    next = ap (λ z. z ∷ []) (some_is e);
  }
  parted (y ∷ xs) (suc p) x e =
      let t = parted xs p x e in
      let n : suc p + 1 ≡ suc (p + 1) = omega arith in
      record {
        after = t.after;
        whole = ap (λ l. y ∷ l) t.whole;
        long = ap suc t.long;
        next = ap (λ m. take m (y ∷ xs)) n ∙ ap (λ l. y ∷ l) t.next;
      }

module _ {X Y : Type 0} where
  pub all_flat : (P : Y → Type 0) (f : X → List Y) (xs : List X) → AllByRecursion (λ x. AllByRecursion P (f x)) xs
      → AllByRecursion P (flat_map f xs)
  all_flat P f [] h = tt
  all_flat P f (x ∷ xs) h = all_append P (f x) (flat_map f xs) h.0 (all_flat P f xs h.1)

  pub pairwise_flat : (R : Y → Y → Type 0) (f : X → List Y) (xs : List X) → AllByRecursion (λ x. Pairwise R (f x)) xs
      → Pairwise (λ x y. AllByRecursion (λ a. AllByRecursion (R a) (f y)) (f x)) xs → Pairwise R (flat_map f xs)
  pairwise_flat R f [] h k = tt
  pairwise_flat R f (x ∷ xs) h k = pairwise_append R (f x) (flat_map f xs) h.0 (pairwise_flat R f xs h.1 k.1) (cross (f x) (swap xs k.0))
    where
      -- of each a in f x and each y: R of a and all of f y
      swap : (ys : List X) → AllByRecursion (λ y. AllByRecursion (λ a. AllByRecursion (R a) (f y)) (f x)) ys
          → (i : ℕ) (a : Y) → slice_get (f x) i ≡ Some a → AllByRecursion (λ y. AllByRecursion (R a) (f y)) ys
      swap ys h i a e = all_by (λ y. AllByRecursion (R a) (f y)) ys (λ j y d. all_at (λ a. AllByRecursion (R a) (f y)) (f x) i a (all_at (λ y. AllByRecursion (λ a. AllByRecursion (R a) (f y)) (f x)) ys j y h d) e)

      cross : (ys : List Y) → ((i : ℕ) (a : Y) → slice_get ys i ≡ Some a → AllByRecursion (λ y. AllByRecursion (R a) (f y)) xs) → AllByRecursion (λ a. AllByRecursion (R a) (flat_map f xs)) ys
      cross ys h = all_by (λ a. AllByRecursion (R a) (flat_map f xs)) ys (λ i a e. all_flat (R a) f xs (h i a e))
