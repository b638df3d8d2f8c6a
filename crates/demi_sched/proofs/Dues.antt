-- How many are due among the first of those that are held.
use Rattle.std.specs.Prelude.{◌≡◌, ℕ, zero, suc, ◌+◌, ◌<◌, ◌≤◌, Bool, true, false, cond, List, [], ◌∷◌, length}
use Rattle.std.proofs.Common.{ap, arith, get_or, take}
use Rattle.demi_sched.specs.Waiting.{count_due, is_due}
use Rattle.demi_sched.specs.declared.held.Held.{Held}

pub due_at_most : (b : Bool) → cond {A = ℕ} b 1 0 ≤ 1
due_at_most true = omega arith
due_at_most false = omega arith

module _ {K : Type 0} where
  abbrev due_weight : Held K → ℕ
  due_weight h = cond {A = ℕ} (is_due h.state) 1 0

  pub due_next : (hs : List (Held K)) (i : ℕ) (h : Held K) → i < length hs → h ≡ get_or hs i h
      → count_due (take (suc i) hs) ≡ count_due (take i hs) + cond {A = ℕ} (is_due h.state) 1 0
  due_next [] i h lt is = absurd (omega arith)
  due_next (x ∷ hs) zero h lt is = let e : due_weight h ≡ due_weight x = ap due_weight is in (omega arith)
  due_next (x ∷ hs) (suc i) h lt is = let e : count_due (take (suc i) hs) ≡ count_due (take i hs) + due_weight h = due_next hs i h
      (omega arith) is in (omega arith)

  pub due_few : (hs : List (Held K)) → count_due hs ≤ length hs
  due_few [] = omega arith
  due_few (x ∷ hs) = let e : count_due hs ≤ length hs = due_few hs in
      elim (is_due x.state) as (λ b. cond {A = ℕ} b 1 0 + count_due hs ≤ suc (length hs))
      [ true ↦ omega arith | false ↦ omega arith ]
