-- The number that an array says.
use Rattle.std.proofs.Common.{◌≡◌, ℕ, ◌+◌, List, [], ◌∷◌, ◌++◌, length, refl, arith, ap, sym, ◌∙◌}
use Rattle.std.specs.Int.{w16, from_be_bytes}
use Rattle.demi_heap.specs.Seen.{HalfValue}
use Rattle.demi_logq.specs.Folding.{bytes_of}
use Rattle.demi_memq.specs.Said.{array_said}
use Rattle.demi_served.specs.Sharing.{number_of}
use Rattle.demi_sga.specs.Arrays.{byte_count, part_of}

bytes_said : (sga : List HalfValue) → bytes_of (array_said sga) ≡ bytes_of sga
bytes_said [] = refl
bytes_said (a ∷ sga) = ap (λ (l : List ℕ). a.bytes ++ l) (bytes_said sga)

-- it says the same where it says only its bytes
pub number_said : (sga : List HalfValue) → number_of (array_said sga) ≡ number_of sga
number_said sga = ap (from_be_bytes w16) (bytes_said sga)

two_of : (a : HalfValue) (bytes : List ℕ) → a.bytes ≡ bytes → length bytes + 0 ≡ 2 → (part_of (a ∷ []) 0 2 ≡ bytes_of (a ∷ [])) × (length (bytes_of (a ∷ [])) ≡ 2)
two_of a [] is two = absurd (omega arith)
two_of a (x ∷ []) is two = absurd (omega arith)
two_of a (x ∷ y ∷ []) is two = (ap part is ∙ sym (ap (λ (l : List ℕ). l ++ []) is), ap (λ (l : List ℕ). length (l ++ [])) is)
  where
    part : List ℕ → List ℕ
    part l = part_of (record a { bytes = l } ∷ []) 0 2
two_of a (x ∷ y ∷ z ∷ more) is two = absurd (omega arith)

-- one segment of two bytes
pub two_bytes : (sga : List HalfValue) → length sga ≡ 1 → byte_count sga ≡ 2 → (part_of sga 0 2 ≡ bytes_of sga) × (length (bytes_of sga) ≡ 2)
two_bytes [] one two = absurd (omega arith)
two_bytes (a ∷ b ∷ more) one two = absurd (omega arith)
two_bytes (a ∷ []) one two = two_of a a.bytes refl two
