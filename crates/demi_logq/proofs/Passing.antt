-- What the numbers of a pass come to, call by call.
use mathlib.Core.Option.{some}
use lib.ListN.{get_elem?}
use Rattle.std.proofs.Common.{◌≡◌, ℕ, ◌+◌, ◌<◌, ◌≤◌, ap, sym, ◌∙◌, arith, subst}
use Rattle.demi_heap.specs.Seen.{PassValue, looked_as, one_claimed, one_ended}
use Rattle.demi_heap.specs.Rule.{first_of, end_of}
use Rattle.demi_sga.specs.Arrays.{class_for, returned_by}
use Rattle.demi_logq.specs.Items.{Accounts, NoneHolds}

module _ (v w : PassValue) where
  pub accounts_claimed : w ≡ one_claimed (looked_as v w) → v.clock ≤ w.clock → Accounts v w 0 1
  accounts_claimed e later = let c = ap (λ (p : PassValue). p.claimed) e in let r = ap (λ (p : PassValue). p.returned) e in let n = ap (λ (p : PassValue). p.ended) e in record {
    heap = ap (λ (p : PassValue). p.heap) e;
    loaned = ap (λ (p : PassValue). p.loaned) e;
    returned = omega arith;
    ended = omega arith;
    claimed = omega arith;
    clock = later;
  }

  pub accounts_looked : w ≡ looked_as v w → v.clock ≤ w.clock → Accounts v w 0 0
  accounts_looked e later = let c = ap (λ (p : PassValue). p.claimed) e in let r = ap (λ (p : PassValue). p.returned) e in let n = ap (λ (p : PassValue). p.ended) e in record {
    heap = ap (λ (p : PassValue). p.heap) e;
    loaned = ap (λ (p : PassValue). p.loaned) e;
    returned = omega arith;
    ended = omega arith;
    claimed = omega arith;
    clock = later;
  }

  pub accounts_same : w ≡ v → Accounts v w 0 0
  accounts_same e = let c = ap (λ (p : PassValue). p.claimed) e in let r = ap (λ (p : PassValue). p.returned) e in let n = ap (λ (p : PassValue). p.ended) e in let k = ap (λ (p : PassValue). p.clock) e in record {
    heap = ap (λ (p : PassValue). p.heap) e;
    loaned = ap (λ (p : PassValue). p.loaned) e;
    returned = omega arith;
    ended = omega arith;
    claimed = omega arith;
    clock = omega arith;
  }

  pub accounts_returned : (n : ℕ) → w ≡ returned_by v n → Accounts v w n 0
  accounts_returned m e = let c = ap (λ (p : PassValue). p.claimed) e in let r = ap (λ (p : PassValue). p.returned) e in let n = ap (λ (p : PassValue). p.ended) e in let k = ap (λ (p : PassValue). p.clock) e in record {
    heap = ap (λ (p : PassValue). p.heap) e;
    loaned = ap (λ (p : PassValue). p.loaned) e;
    returned = omega arith;
    ended = omega arith;
    claimed = omega arith;
    clock = omega arith;
  }

module _ (u v w : PassValue) where
  pub accounts_on : (a b c d : ℕ) → Accounts u v a b → Accounts v w c d → Accounts u w (a + c) (b + d)
  accounts_on a b c d p q = let p₀ = p.returned in let p₁ = p.ended in let p₂ = p.claimed in let p₃ = p.clock in let q₀ = q.returned in let q₁ = q.ended in let q₂ = q.claimed in let q₃ = q.clock in record {
    heap = q.heap ∙ p.heap;
    loaned = q.loaned ∙ p.loaned;
    returned = omega arith;
    ended = omega arith;
    claimed = omega arith;
    clock = omega arith;
  }

  -- a slot that was claimed is freed
  pub accounts_freed : (a b : ℕ) → Accounts u v a (b + 1) → w ≡ one_ended v → Accounts u w a b
  accounts_freed a b p e = let p₀ = p.returned in let p₁ = p.ended in let p₂ = p.claimed in let p₃ = p.clock in
      let c = ap (λ (z : PassValue). z.claimed) e in let r = ap (λ (z : PassValue). z.returned) e in let n = ap (λ (z : PassValue). z.ended) e in let k = ap (λ (z : PassValue). z.clock) e in record {
        heap = ap (λ (z : PassValue). z.heap) e ∙ p.heap;
        loaned = ap (λ (z : PassValue). z.loaned) e ∙ p.loaned;
        returned = omega arith;
        ended = omega arith;
        claimed = omega arith;
        clock = omega arith;
      }

  -- what the later part of a call found
  pub found_later : (a b n : ℕ) → Accounts u v a b → NoneHolds v w n → NoneHolds u w n
  found_later a b n p f = let c = class_for n in let late = p.clock in
      record { at = λ k low high. let x = f.at k (subst (λ h. first_of h.shape c ≤ k) (sym p.heap) low) (subst (λ h. k < end_of h.shape c) (sym p.heap) high) in let since = x.2 in (x.0, x.1, omega arith, x.3) }

  -- a free looks at nothing
  pub found_freed : (n : ℕ) → NoneHolds u v n → w ≡ one_ended v → NoneHolds u w n
  found_freed n f e = record { at = λ k low high. let x = f.at k low high in (x.0, x.1, x.2, subst (λ m. get_elem? m x.1 ≡ some (x.0, k)) (sym (ap (λ (z : PassValue). z.missed) e)) x.3) }
