-- Facts on lists, by place.
use Rattle.std.proofs.Common.{◌≡◌, ℕ, zero, suc, ◌+◌, ◌<◌, ◌⊎◌, List, [], ◌∷◌, ◌++◌, length, Some, refl, arith, ap, sym, subst, inl, inr}
use Rattle.std.specs.Prelude.{slice_get}
use Rattle.std.specs.List.{AllByRecursion, AllZip}
use Rattle.demi_port_core.specs.History.{Among, Each}
use Rattle.demi_served.specs.Served.{Placed}

pub some_is : {X : Type 0} {x y : X} → Some x ≡ Some y → x ≡ y
some_is h = cc

module _ {X : Type 0} where
  pub all_at : (P : X → Type 0) (xs : List X) (i : ℕ) (x : X) → AllByRecursion P xs → slice_get xs i ≡ Some x → P x
  all_at P [] i x h e = absurd (cc)
  all_at P (y ∷ xs) zero x h e = subst P (some_is e) h.0
  all_at P (y ∷ xs) (suc i) x h e = all_at P xs i x h.1 e

  pub all_append : (P : X → Type 0) (xs ys : List X) → AllByRecursion P xs → AllByRecursion P ys
      → AllByRecursion P (xs ++ ys)
  all_append P [] ys h k = k
  all_append P (x ∷ xs) ys h k = (h.0, all_append P xs ys h.1 k)

  pub each_at : (P : X → Type 0) (xs : List X) (i : ℕ) (x : X) → Each P xs → slice_get xs i ≡ Some x → P x
  each_at P [] i x h e = absurd (cc)
  each_at P (y ∷ xs) zero x h e = subst P (some_is e) h.0
  each_at P (y ∷ xs) (suc i) x h e = each_at P xs i x h.1 e

  pub placed_at : (R : ℕ → X → Type 0) (base : ℕ) (xs : List X) (i : ℕ) (x : X) → Placed R base xs
      → slice_get xs i ≡ Some x → R (base + i) x
  placed_at R base [] i x h e = absurd (cc)
  placed_at R base (y ∷ xs) zero x h e = let n : base ≡ base + 0 = omega arith in subst (λ m. R m x) n (subst (R base) (some_is e) h.0)
  placed_at R base (y ∷ xs) (suc i) x h e = let n : base + 1 + i ≡ base + suc i = omega arith in subst (λ m. R m x) n (placed_at R (base + 1) xs i x h.1 e)

  pub get_some : (xs : List X) (i : ℕ) → i < length xs → (x : X) × (slice_get xs i ≡ Some x)
  get_some [] i less = absurd (omega arith)
  get_some (x ∷ xs) zero less = (x, refl)
  get_some (x ∷ xs) (suc i) less = get_some xs i (omega arith)

  pub get_within : (xs : List X) (i : ℕ) (x : X) → slice_get xs i ≡ Some x → i < length xs
  get_within [] i x e = absurd (cc)
  get_within (y ∷ xs) zero x e = omega arith
  get_within (y ∷ xs) (suc i) x e = let h = get_within xs i x e in omega arith

  pub get_left : (xs ys : List X) (i : ℕ) (x : X) → slice_get xs i ≡ Some x → slice_get (xs ++ ys) i ≡ Some x
  get_left [] ys i x e = absurd (cc)
  get_left (y ∷ xs) ys zero x e = e
  get_left (y ∷ xs) ys (suc i) x e = get_left xs ys i x e

  pub get_right : (xs ys : List X) (i : ℕ) (x : X) → slice_get ys i ≡ Some x → (j : ℕ) × (slice_get (xs ++ ys) j ≡ Some x)
  get_right [] ys i x e = (i, e)
  get_right (y ∷ xs) ys i x e = let k = get_right xs ys i x e in (suc k.0, k.1)

  pub get_either : (xs ys : List X) (i : ℕ) (x : X) → slice_get (xs ++ ys) i ≡ Some x
      → (slice_get xs i ≡ Some x) ⊎ ((j : ℕ) × (slice_get ys j ≡ Some x))
  get_either [] ys i x e = inr (i, e)
  get_either (y ∷ xs) ys zero x e = inl e
  get_either (y ∷ xs) ys (suc i) x e = get_either xs ys i x e

  pub among_at : (xs : List X) (i : ℕ) (x : X) → slice_get xs i ≡ Some x → Among x xs
  among_at [] i x e = absurd (cc)
  among_at (y ∷ xs) zero x e = inl (sym (some_is e))
  among_at (y ∷ xs) (suc i) x e = inr (among_at xs i x e)

  pub among_place : (xs : List X) (x : X) → Among x xs → (i : ℕ) × (slice_get xs i ≡ Some x)
  among_place [] x a = absurd a
  among_place (y ∷ xs) x (inl e) = (0, ap Some (sym e))
  among_place (y ∷ xs) x (inr a) = let k = among_place xs x a in (suc k.0, k.1)

module _ {X Y : Type 0} (R : X → Y → Type 0) where
  pub zip_at : (xs : List X) (ys : List Y) (i : ℕ) (x : X) → AllZip R xs ys → slice_get xs i ≡ Some x
      → (y : Y) × (slice_get ys i ≡ Some y) × R x y
  zip_at [] ys i x h e = absurd (cc)
  zip_at (a ∷ xs) [] i x h e = absurd h
  zip_at (a ∷ xs) (b ∷ ys) zero x h e = (b, refl, subst (λ z. R z b) (some_is e) h.0)
  zip_at (a ∷ xs) (b ∷ ys) (suc i) x h e = zip_at xs ys i x h.1 e

  pub zip_other : (xs : List X) (ys : List Y) (i : ℕ) (y : Y) → AllZip R xs ys → slice_get ys i ≡ Some y
      → (x : X) × (slice_get xs i ≡ Some x) × R x y
  zip_other xs [] i y h e = absurd (cc)
  zip_other [] (b ∷ ys) i y h e = absurd h
  zip_other (a ∷ xs) (b ∷ ys) zero y h e = (a, refl, subst (R a) (some_is e) h.0)
  zip_other (a ∷ xs) (b ∷ ys) (suc i) y h e = zip_other xs ys i y h.1 e

  pub zip_more : (S : X → Y → Type 0) (xs : List X) (ys : List Y) → ((x : X) (y : Y) → R x y → S x y) → AllZip R xs ys → AllZip S xs ys
  zip_more S [] [] f h = tt
  zip_more S [] (b ∷ ys) f h = absurd h
  zip_more S (a ∷ xs) [] f h = absurd h
  zip_more S (a ∷ xs) (b ∷ ys) f h = (f a b h.0, zip_more S xs ys f h.1)
