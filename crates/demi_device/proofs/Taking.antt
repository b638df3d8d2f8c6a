-- An item is taken out of a list.
use Rattle.std.proofs.Common.{⊎_elim, ◌≡◌, ℕ, zero, suc, ◌<◌, List, [], ◌∷◌, ◌++◌, length, get_or, take, drop, refl, arith}
use Rattle.demi_port_core.specs.History.{AnyOf}

module _ {A : Type 0} where
  pub parted_at : (l : List A) (i : ℕ) (x d : A) → i < length l → get_or l i d ≡ x → l ≡ take i l ++ x ∷ drop (suc i) l
  parted_at [] i x d within e = absurd (omega arith)
  parted_at (y ∷ ys) zero x d within e = λ q. e q ∷ ys
  parted_at (y ∷ ys) (suc i) x d within e = λ q. y ∷ parted_at ys i x d (omega arith) e q

  pub any_at : (P : A → Type 0) (l : List A) → AnyOf P l → (k : ℕ) × (d : A) × (k < length l) × P (get_or l k d)
  any_at P [] h = absurd h
  any_at P (x ∷ xs) h = ⊎_elim (λ p. (0, x, omega arith, p)) (λ t. let w = any_at P xs t in let small = w.2 in (suc w.0, w.1, omega arith, w.3)) h

  pub last_is : (l : List A) (x d : A) → get_or (l ++ x ∷ []) (length l) d ≡ x
  last_is [] x d = refl
  last_is (y ∷ ys) x d = last_is ys x d
