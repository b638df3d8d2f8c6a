-- The doorbell bits that a device took.
use Rattle.std.proofs.Common.{◌≡◌, ◌≢◌, ℕ, ◌*◌, ◌^◌, ◌/◌, ◌%◌, ◌<◌, ◌≤◌, List, [], ◌∷◌, ◌++◌, get_or, bit_or, subst, sym, ap, ◌∙◌, arith, append_assoc, pow_pos}
use mathlib.Core.Logic.{dite}
use native.Mathlib.Decide.{ℕ_discrete}
use Rattle.std.specs.Int.{bit_at, w64}
use Rattle.std.proofs.lemmas.Nat.Bits.{bit_at_above, bit_at_or, bit_at-lt, bit_at_clear_same, bit_at_clear_other}
use Rattle.std.proofs.Math.Nat.{div-add-mod, mod-lt, mul-zero}
use Rattle.demi_port.specs.Seen.{DeviceValue}
use Rattle.demi_port_core.specs.Bits.{has_bit}
use Rattle.demi_port_core.specs.Told.{clear}
use Rattle.demi_device.specs.Holding.{FetchedMore, OnlyFetched}

pub or_right : (a b q : ℕ) → bit_at b q ≡ 1 → bit_at (bit_or a b) q ≡ 1
or_right a b q e = let h = bit_at_or a b q in let small = bit_at-lt a q in h ∙ (omega arith)

pub or_none : (a b q : ℕ) → bit_at a q ≡ 0 → bit_at b q ≡ 0 → bit_at (bit_or a b) q ≡ 0
or_none a b q d e = bit_at_or a b q ∙ (omega arith)

-- an index of the first word
pub first_has : (i n : ℕ) (rest : List ℕ) → i < 64 → has_bit (n ∷ rest) i ≡ bit_at n i
first_has i n rest small = let a : i / 64 ≡ 0 = omega arith in let b : i % 64 ≡ i = omega arith in λ k. bit_at (get_or (n ∷ rest) (a k) 0) (b k)

-- no bit is set from a place on from which on nothing is left
pub none_from : (ws : List ℕ) (i j : ℕ) → get_or ws 0 0 / 2 ^ j ≡ 0 → j ≤ i → i < 64 → has_bit ws i ≢ 1
none_from ws i j e le small one = let n = get_or ws 0 0 in let d = div-add-mod n (2 ^ j) in let r = mod-lt n {m = 2 ^ j} (pow_pos j) in let z : 2 ^ j * (n / 2 ^ j) ≡ 2 ^ j * 0 = ap (λ q. 2 ^ j * q) e in let none : 2 ^ j * 0 ≡ 0 = mul-zero (2 ^ j) in
    let a : i / 64 ≡ 0 = omega arith in let b : i % 64 ≡ i = omega arith in let same : has_bit ws i ≡ bit_at n i = (λ k. bit_at (get_or ws (a k) 0) (b k)) in let off = bit_at_above n j i (omega arith) le in omega arith

pub not_one : (n i : ℕ) → bit_at n i ≢ 1 → bit_at n i ≡ 0
not_one n i ne = let small = bit_at-lt n i in omega arith

pub clear_same : (i n : ℕ) → i < 64 → bit_at (clear i n) i ≡ 0
clear_same i n low = bit_at_clear_same w64 n i low

pub clear_other : (i n q : ℕ) → i < 64 → q < 64 → q ≢ i → bit_at (clear i n) q ≡ bit_at n q
clear_other i n q low low' ne = bit_at_clear_other w64 n i low q low' ne

pub clear_none : (i n q : ℕ) → i < 64 → q < 64 → bit_at n q ≡ 0 → bit_at (clear i n) q ≡ 0
clear_none i n q low low' z = dite (ℕ_discrete q i) (λ same. subst (λ (j : ℕ). bit_at (clear i n) j ≡ 0) (sym same) (clear_same i n low)) (λ ne. clear_other i n q low low' ne ∙ z)

pub fetched_one : {D T B : Type 0} (i : ℕ) (s l new : DeviceValue D T B) → FetchedMore s l → OnlyFetched i l new → FetchedMore s new
fetched_one i s l new f o = (
  f.0 ++ o.0 ∷ [],
  λ q. record {
    port = (ap (λ z. z.port) o.1 ∙ ap (λ z. z.port) f.1) q;
    passes = (ap (λ z. z.passes) o.1 ∙ ap (λ z. z.passes) f.1) q;
    clock = (ap (λ z. z.clock) o.1 ∙ ap (λ z. z.clock) f.1) q;
    looks = (ap (λ z. z.looks) o.1 ∙ ap (λ z. z.looks) f.1) q;
    rang = new.rang;
    fetched = (ap (λ z. z.fetched) o.1 ∙ ap (λ z. z.fetched ++ o.0 ∷ []) f.1 ∙ append_assoc s.fetched f.0 (o.0 ∷ [])) q;
    finished = (ap (λ z. z.finished) o.1 ∙ ap (λ z. z.finished) f.1) q;
    trail = (ap (λ z. z.trail) o.1 ∙ ap (λ z. z.trail) f.1) q;
    owes = (ap (λ z. z.owes) o.1 ∙ ap (λ z. z.owes) f.1) q;
  },
)
