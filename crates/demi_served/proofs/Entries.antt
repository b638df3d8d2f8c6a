-- The operations of one pass, as entries of the history.
use Rattle.std.proofs.Common.{◌≡◌, ℕ, zero, suc, ◌+◌, ◌<◌, Bool, true, false, List, [], ◌∷◌, Some, refl, arith, ◌∙◌, ap, sym, subst, cond, inl, inr}
use Rattle.std.specs.Prelude.{slice_get, ◌==◌}
use Rattle.std.specs.List.{AllByRecursion}
use Rattle.std.proofs.lemmas.Bool.Decides.{nat_tests}
use mathlib.Core.Option.{some}
use lib.ListN.{get_elem?}
use Rattle.demi_port_core.specs.History.{of_pass, Among}
use Rattle.demi_served.specs.Served.{Pairwise}
use Rattle.demi_served.proofs.Lists.{some_is}

module _ {D : Type 0} where
  pub get_elem : (history : List (ℕ × D)) (p : ℕ) (e : ℕ × D) → slice_get history p ≡ Some e
      → get_elem? history p ≡ some e
  get_elem [] p e h = absurd (cc)
  get_elem (x ∷ history) zero e h = ap some (some_is h)
  get_elem (x ∷ history) (suc p) e h = get_elem history p e h

  -- an operation of a pass is an entry
  pub entry_of : (n place : ℕ) (history : List (ℕ × D)) (q : ℕ) (y : D) → Among (q, y) (of_pass n place history)
      → (i : ℕ) × (q ≡ place + i) × (slice_get history i ≡ Some (n, y))
  entry_of n place [] q y h = absurd h
  entry_of n place (e ∷ history) q y h = go (λ more. entry_of n (place + 1) history q y more) (e.0 == n) refl h
    where
      later : ((i : ℕ) × (q ≡ place + 1 + i) × (slice_get history i ≡ Some (n, y)))
          → (i : ℕ) × (q ≡ place + i) × (slice_get (e ∷ history) i ≡ Some (n, y))
      later k = (suc k.0, omega (arith, k.1), k.2)

      go : (Among (q, y) (of_pass n (place + 1) history) → (i : ℕ) × (q ≡ place + 1 + i) × (slice_get history i ≡ Some (n, y))) → (c : Bool) → (e.0 == n) ≡ c → Among (q, y) (cond c ((place, e.1) ∷ of_pass n (place + 1) history) (of_pass n (place + 1) history)) → (i : ℕ) × (q ≡ place + i) × (slice_get (e ∷ history) i ≡ Some (n, y))
      go rest false t h = later (rest h)
      go rest true t (inr h) = later (rest h)
      go rest true t (inl h) =
          let number : e.0 ≡ n = grind (arith, nat_tests) in
          let pair : e.1 ≡ y = sym (ap (λ (z : ℕ × D). z.1) h) in
          let at : q ≡ place = ap (λ (z : ℕ × D). z.0) h in
          (0, omega (arith, at), (λ i. Some (number i, pair i)))

  -- what holds of a pass's operations holds at its entries
  pub all_of_pass : (P : ℕ × D → Type 0) (n place : ℕ) (history : List (ℕ × D)) (i : ℕ) (e : ℕ × D)
      → AllByRecursion P (of_pass n place history) → slice_get history i ≡ Some e → e.0 ≡ n → P (place + i, e.1)
  all_of_pass P n place [] i e h at own = absurd (cc)
  all_of_pass P n place (x ∷ history) zero e h at own = go (x.0 == n) refl h
    where
      go : (c : Bool) → (x.0 == n) ≡ c → AllByRecursion P (cond c ((place, x.1) ∷ of_pass n (place + 1) history) (of_pass n (place + 1) history)) → P (place + 0, e.1)
      go false t h = let number : x.0 ≡ n = ap (λ (z : ℕ × D). z.0) (some_is at)
          ∙ own in absurd (grind (arith, nat_tests))
      go true t h = let m : place ≡ place + 0 = omega arith in subst (λ k. P (k, e.1)) m (subst (λ (z : ℕ × D). P (place, z.1)) (some_is at) h.0)
  all_of_pass P n place (x ∷ history) (suc i) e h at own = let m : place + 1 + i ≡ place + suc i = omega arith in subst (λ k. P (k, e.1)) m (go (λ more. all_of_pass P n (place + 1) history i e more at own) (x.0 == n) h)
    where
      go : (AllByRecursion P (of_pass n (place + 1) history) → P (place + 1 + i, e.1)) → (c : Bool)
          → AllByRecursion P (cond c ((place, x.1) ∷ of_pass n (place + 1) history) (of_pass n (place + 1) history))
          → P (place + 1 + i, e.1)
      go rest false h = rest h
      go rest true h = rest h.1

  pub pairs_of_pass : (R : ℕ × D → ℕ × D → Type 0) (n place : ℕ) (history : List (ℕ × D)) (i j : ℕ) (e f : ℕ × D)
      → Pairwise R (of_pass n place history) → i < j
      → slice_get history i ≡ Some e → slice_get history j ≡ Some f → e.0 ≡ n → f.0 ≡ n
      → R (place + i, e.1) (place + j, f.1)
  pairs_of_pass R n place [] i j e f h less at to own too = absurd (cc)
  pairs_of_pass R n place (x ∷ history) i zero e f h less at to own too = absurd (omega arith)
  pairs_of_pass R n place (x ∷ history) zero (suc j) e f h less at to own too = go (x.0 == n) refl h
    where
      go : (c : Bool) → (x.0 == n) ≡ c → Pairwise R (cond c ((place, x.1) ∷ of_pass n (place + 1) history) (of_pass n (place + 1) history)) → R (place + 0, e.1) (place + suc j, f.1)
      go false t h = let number : x.0 ≡ n = ap (λ (z : ℕ × D). z.0) (some_is at)
          ∙ own in absurd (grind (arith, nat_tests))
      go true t h =
          let k : place ≡ place + 0 = omega arith in
          let m : place + 1 + j ≡ place + suc j = omega arith in
          let same : x.1 ≡ e.1 = ap (λ (z : ℕ × D). z.1) (some_is at) in
          subst (λ z. R (place + 0, e.1) (z, f.1)) m (subst (λ z. R (z, e.1) (place + 1 + j, f.1)) k (subst (λ z. R (place, z) (place + 1 + j, f.1)) same
          (all_of_pass (R (place, x.1)) n (place + 1) history j f h.0 to too)))
  pairs_of_pass R n place (x ∷ history) (suc i) (suc j) e f h less at to own too =
      let k : place + 1 + i ≡ place + suc i = omega arith in
      let m : place + 1 + j ≡ place + suc j = omega arith in
      subst (λ z. R (place + suc i, e.1) (z, f.1)) m (subst (λ z. R (z, e.1) (place + 1 + j, f.1)) k (go (λ more. pairs_of_pass R n (place + 1) history i j e f more (omega arith) at to own too) (x.0 == n) h))
    where
      go : (Pairwise R (of_pass n (place + 1) history) → R (place + 1 + i, e.1) (place + 1 + j, f.1)) → (c : Bool)
          → Pairwise R (cond c ((place, x.1) ∷ of_pass n (place + 1) history) (of_pass n (place + 1) history))
          → R (place + 1 + i, e.1) (place + 1 + j, f.1)
      go rest false h = rest h
      go rest true h = rest h.1
