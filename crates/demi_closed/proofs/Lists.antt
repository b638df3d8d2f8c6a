-- Facts on lists, by place.
use Rattle.std.proofs.Common.{◌≡◌, ℕ, zero, suc, ◌+◌, List, [], ◌∷◌, Some, length, map, refl, arith, ◌∙◌, ap, subst}
use Rattle.std.specs.Prelude.{option_map, slice_get}
use Rattle.std.specs.List.{AllByRecursion}
use Rattle.std.proofs.lemmas.Option.{slice_get-map}
use Rattle.demi_served.specs.Served.{Placed}

some_is : {A : Type 0} {a b : A} → Some a ≡ Some b → a ≡ b
some_is e = cc

module _ {A : Type 0} where
  -- P of each, by place
  pub all_of : (P : A → Type 0) (xs : List A) → ((i : ℕ) (x : A) → slice_get xs i ≡ Some x → P x) → AllByRecursion P xs
  all_of P [] f = tt
  all_of P (x ∷ xs) f = (f 0 x refl, all_of P xs (λ i y at. f (suc i) y at))

  pub all_at : (P : A → Type 0) (xs : List A) (i : ℕ) (x : A) → AllByRecursion P xs → slice_get xs i ≡ Some x → P x
  all_at P [] i x h at = absurd (cc)
  all_at P (y ∷ xs) zero x h at = subst P (some_is at) h.0
  all_at P (y ∷ xs) (suc i) x h at = all_at P xs i x h.1 at

  pub all_so : (P Q : A → Type 0) (xs : List A) → ((x : A) → P x → Q x) → AllByRecursion P xs → AllByRecursion Q xs
  all_so P Q [] f h = tt
  all_so P Q (x ∷ xs) f h = (f x h.0, all_so P Q xs f h.1)

  -- R of each and its place
  pub placed_at : (R : ℕ → A → Type 0) (base : ℕ) (xs : List A) (i : ℕ) (x : A) → Placed R base xs → slice_get xs i ≡ Some x → R (base + i) x
  placed_at R base [] i x h at = absurd (cc)
  placed_at R base (y ∷ xs) zero x h at = let n : base ≡ base + 0 = omega arith in subst (λ (m : ℕ). R m x) n (subst (R base) (some_is at) h.0)
  placed_at R base (y ∷ xs) (suc i) x h at = let n : base + 1 + i ≡ base + suc i = omega arith in subst (λ (m : ℕ). R m x) n (placed_at R (base + 1) xs i x h.1 at)

pub map_at : {A B : Type 0} (f : A → B) (xs : List A) (i : ℕ) (x : A) → slice_get xs i ≡ Some x → slice_get (map f xs) i ≡ Some (f x)
map_at f xs i x at = slice_get-map f xs i ∙ ap (λ o. option_map f o) at

pub map_long : {A B : Type 0} (f : A → B) (xs : List A) → length (map f xs) ≡ length xs
map_long f [] = refl
map_long f (x ∷ xs) = let e = map_long f xs in omega (arith, e)

pub placed_map : {A B : Type 0} (f : A → B) (R : ℕ → A → Type 0) (S : ℕ → B → Type 0) (base : ℕ) (xs : List A) → ((n : ℕ) (x : A) → R n x → S n (f x)) → Placed R base xs → Placed S base (map f xs)
placed_map f R S base [] so h = tt
placed_map f R S base (x ∷ xs) so h = (so base x h.0, placed_map f R S (base + 1) xs so h.1)

pub each_placed : {A B : Type 0} (f : A → B) (R : ℕ → A → Type 0) (P : B → Type 0) (base : ℕ) (xs : List A) → ((n : ℕ) (x : A) → R n x → P (f x)) → Placed R base xs → AllByRecursion P (map f xs)
each_placed f R P base [] so h = tt
each_placed f R P base (x ∷ xs) so h = (so base x h.0, each_placed f R P (base + 1) xs so h.1)
