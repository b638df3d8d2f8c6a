-- Lists by place, and what is so of lists that were mapped twice.
use Rattle.std.proofs.Common.{◌≡◌, ℕ, zero, suc, ◌+◌, ◌<◌, ◌⊎◌, List, [], ◌∷◌, Some, length, map, refl, arith, sym, subst, inl, inr}
use Rattle.std.specs.Prelude.{slice_get}
use Rattle.std.specs.List.{AllByRecursion}
use mathlib.Core.Logic.{dite}
use native.Mathlib.Decide.{ℕ_discrete}
use Rattle.demi_port_core.specs.History.{Among, AnyOf, Each}
use Rattle.demi_served.specs.Served.{Placed}

module _ {A : Type 0} where
  some_is : {a b : A} → Some a ≡ Some b → a ≡ b
  some_is e = cc

  -- what stands at a place below the length
  pub one_at : (xs : List A) (k : ℕ) → k < length xs → (x : A) × (slice_get xs k ≡ Some x)
  one_at [] k low = absurd (omega (arith, low))
  one_at (x ∷ xs) zero low = (x, refl)
  one_at (x ∷ xs) (suc k) low = one_at xs k (omega (arith, low))

  -- P of each, by being among them
  pub all_among : (P : A → Type 0) (xs : List A) → ((x : A) → Among x xs → P x) → AllByRecursion P xs
  all_among P [] f = tt
  all_among P (x ∷ xs) f = (f x (inl refl), all_among P xs (λ y a. f y (inr a)))

  pub among_all : (P : A → Type 0) (xs : List A) (x : A) → AllByRecursion P xs → Among x xs → P x
  among_all P [] x h a = absurd a
  among_all P (y ∷ xs) x h (inl e) = subst P (sym e) h.0
  among_all P (y ∷ xs) x h (inr a) = among_all P xs x h.1 a

  -- R of each and its place
  pub placed_at : (R : ℕ → A → Type 0) (base : ℕ) (xs : List A) (i : ℕ) (x : A) → Placed R base xs → slice_get xs i ≡ Some x → R (base + i) x
  placed_at R base [] i x h at = absurd (cc)
  placed_at R base (y ∷ xs) zero x h at = let n : base ≡ base + 0 = omega arith in subst (λ (m : ℕ). R m x) n (subst (R base) (some_is at) h.0)
  placed_at R base (y ∷ xs) (suc i) x h at = let n : base + 1 + i ≡ base + suc i = omega arith in subst (λ (m : ℕ). R m x) n (placed_at R (base + 1) xs i x h.1 at)

pub zero_more : (n : ℕ) → 0 + n ≡ n
zero_more n = omega arith

-- whether a number is among these
pub among_or_not : (n : ℕ) (xs : List ℕ) → Among n xs ⊎ (Among n xs → ⊥)
among_or_not n [] = inr (λ a. a)
among_or_not n (x ∷ xs) = dite (ℕ_discrete n x) (λ same. inl (inl same)) (λ differs. further differs (among_or_not n xs))
  where
    further : (n ≡ x → ⊥) → Among n xs ⊎ (Among n xs → ⊥) → Among n (x ∷ xs) ⊎ (Among n (x ∷ xs) → ⊥)
    further differs (inl a) = inl (inr a)
    further differs (inr none) = inr neither
      where
        neither : Among n (x ∷ xs) → ⊥
        neither (inl e) = differs e
        neither (inr a) = none a

module _ {A C E : Type 0} (P : E → Type 0) (g : C → E) (h : A → C) where
  pub any_at : (xs : List A) (i : ℕ) (x : A) → slice_get xs i ≡ Some x → P (g (h x)) → AnyOf P (map g (map h xs))
  any_at [] i x at p = absurd (cc)
  any_at (y ∷ xs) zero x at p = inl (subst (λ (z : A). P (g (h z))) (sym (some_is at)) p)
  any_at (y ∷ xs) (suc i) x at p = inr (any_at xs i x at p)

  pub each_of : (xs : List A) → ((i : ℕ) (x : A) → slice_get xs i ≡ Some x → P (g (h x))) → Each P (map g (map h xs))
  each_of [] f = tt
  each_of (x ∷ xs) f = (f 0 x refl, each_of xs (λ i y at. f (suc i) y at))

pub among_at : {A C E : Type 0} (g : C → E) (h : A → C) (xs : List A) (i : ℕ) (x : A) → slice_get xs i ≡ Some x → Among (g (h x)) (map g (map h xs))
among_at g h [] i x at = absurd (cc)
among_at g h (y ∷ xs) zero x at = inl (let e = some_is at in subst (λ (z : _). g (h x) ≡ g (h z)) (sym e) refl)
among_at g h (y ∷ xs) (suc i) x at = inr (among_at g h xs i x at)

pub map_long : {A B : Type 0} (f : A → B) (xs : List A) → length (map f xs) ≡ length xs
map_long f [] = refl
map_long f (x ∷ xs) = let e = map_long f xs in omega (arith, e)
