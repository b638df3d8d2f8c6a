-- A bit that is not set is set by adding it, which on most processors is one step where an or may take several.
use Rattle.std.proofs.Common.{◌≡◌, ℕ, ◌+◌, ◌*◌, ◌^◌, ◌%◌, ◌<◌, sym, ap, ◌∙◌, subst, arith, w64, bit_or, bit_and}
use Rattle.std.proofs.Math.Nat.{mod-eq_of_lt}
use Rattle.std.proofs.Math.Pow.{pow-lt}
use Rattle.std.proofs.lemmas.Nat.{or_disjoint, or_lt}
use Rattle.std.proofs.lemmas.Nat.Bits.{and_pow}
use Rattle.std.specs.Int.{bit_at}

pub added_bit : (x i : ℕ) → i < 64 → x < 2 ^ 64 → bit_at x i ≡ 0 → (x + 1 * 2 ^ i % 2 ^ 64) % 2 ^ 64 ≡ bit_or x (1 * 2 ^ i % 2 ^ 64)
added_bit x i few fits unset =
    let small : 2 ^ i < 2 ^ 64 = pow-lt few in let one : 1 * 2 ^ i ≡ 2 ^ i = omega arith in
    let is : 1 * 2 ^ i % 2 ^ 64 ≡ 2 ^ i = ap (λ n. n % 2 ^ 64) one ∙ mod-eq_of_lt small in
    let none : bit_and x (2 ^ i) ≡ 0 = and_pow x i ∙ ap (λ n. n * 2 ^ i) unset ∙ (omega arith) in
    let sum : bit_or x (2 ^ i) ≡ x + 2 ^ i = or_disjoint x (2 ^ i) none in
    let low : bit_or x (2 ^ i) < 2 ^ 64 = or_lt 64 x (2 ^ i) fits small in
    let all : (x + 2 ^ i) % 2 ^ 64 ≡ bit_or x (2 ^ i) = ap (λ n. n % 2 ^ 64) (sym sum) ∙ mod-eq_of_lt low in
    ap (λ n. (x + n) % 2 ^ 64) is ∙ all ∙ ap (λ n. bit_or x n) (sym is)
