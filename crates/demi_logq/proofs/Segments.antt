-- For which segment of an item no slot was found.
use Rattle.std.proofs.Common.{◌≡◌, ℕ, ◌-◌, ◌<◌, ◌≤◌, List, [], ◌∷◌, sym, subst, inl, inr}
use Rattle.demi_heap.specs.Seen.{PassValue}
use Rattle.demi_port_core.specs.History.{AnyOf}
use Rattle.demi_logq.specs.Answers.{spread}
use Rattle.demi_logq.specs.Items.{FoundNone, NoneHolds}
use Rattle.demi_logq.proofs.Saying.{above_is, below_is, when_false, when_true}

one_segment : (n : ℕ) → n ≤ 65536 → spread n ≡ n ∷ []
one_segment n few = when_false _ _ _ (above_is 65536 n few)

two_segments : (n : ℕ) → 65536 < n → spread n ≡ 65536 ∷ (n - 65536) ∷ []
two_segments n many = when_true _ _ _ (below_is 65536 n many)

module _ (v w : PassValue) where
  pub none_for_one : (n : ℕ) → n ≤ 65536 → NoneHolds v w n → FoundNone v w n
  none_for_one n few none = subst (λ (l : List ℕ). AnyOf (NoneHolds v w) l) (sym (one_segment n few)) (inl none)

  pub none_for_first : (n : ℕ) → 65536 < n → NoneHolds v w 65536 → FoundNone v w n
  none_for_first n many none = subst (λ (l : List ℕ). AnyOf (NoneHolds v w) l) (sym (two_segments n many)) (inl none)

  pub none_for_rest : (n : ℕ) → 65536 < n → NoneHolds v w (n - 65536) → FoundNone v w n
  none_for_rest n many none = subst (λ (l : List ℕ). AnyOf (NoneHolds v w) l) (sym (two_segments n many)) (inr (inl none))
