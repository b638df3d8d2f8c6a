-- Of which indexes a set has bits that one word tells.
use Rattle.std.proofs.Common.{◌≡◌, ℕ, zero, suc, ◌<◌, ◌/◌, ◌%◌, ◌∷◌, replicate, slice_index_or, sym, refl, ap, ◌∙◌, subst, arith}
use Rattle.std.proofs.lemmas.Nat.Bits.{bit_at-zero}
use Rattle.std.specs.Int.{bit_at}
use Rattle.demi_port_core.specs.Bits.{has_bit}
use Rattle.demi_port_core.proofs.Starts.{zeros}

-- an index that is in the set is one of the first 64, and is set in the word
pub has_first : (n i : ℕ) → has_bit (n ∷ replicate 15 0) i ≡ 1 → (i < 64) × (bit_at n i ≡ 1)
has_first n i set = go (i / 64) refl
  where
    go : (b : ℕ) → i / 64 ≡ b → (i < 64) × (bit_at n i ≡ 1)
    go zero e = let low : i < 64 = omega arith in let same : i % 64 ≡ i = omega arith in
        (low, ap (bit_at n) (sym same) ∙ subst (λ (k : ℕ). bit_at (slice_index_or (n ∷ replicate 15 0) k 0) (i % 64) ≡ 1) e set)
    go (suc b) e = let is : bit_at (slice_index_or (replicate 15 0) b 0) (i % 64) ≡ 1 = subst (λ (k : ℕ). bit_at (slice_index_or (n ∷ replicate 15 0) k 0) (i % 64) ≡ 1) e set in
        let none : bit_at (slice_index_or (replicate 15 0) b 0) (i % 64) ≡ 0 = ap (λ (z : ℕ). bit_at z (i % 64)) (zeros 15 b) ∙ bit_at-zero (i % 64) in absurd (omega arith)
