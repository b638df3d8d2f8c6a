-- Numbers that a getter of `clap` reads, and those that its parsers take.
use Rattle.std.proofs.Common.{◌≡◌, ◌∙◌, ◌<◌, ◌≤◌, ◌^◌, ◌==◌, ap, arith, cond, drop, ℕ, Bool, true, false}
use Rattle.std.proofs.Common.{List, [], ◌∷◌, is_some, Option, Some, None, Result, Ok, Err, refl, subst, sym}
use Rattle.std.specs.Prelude.{pos, unwrap_or}
use Rattle.std.specs.Option.{option_map_or}
use Rattle.std.specs.Str.Parse.{IsNumeral, ParsesUnsigned, starts_with_minus, without_leading_plus}
use Rattle.std.proofs.lemmas.Bool.{ne_eqb}
use Rattle.std.proofs.lemmas.Int.{ints}
use Rattle.std.proofs.lemmas.Str.Parse.{digit_from_value}
use Rattle.clap.specs.Matches.{ReadsOne}
use Rattle.clap.specs.Values.{IsSignedIn, IsUnsignedIn}
use Rattle.clap.specs.Words.{Text, without_minus}
use Rattle.demi_words.specs.Numbers.{IsNumberBelow, IsNumberIn, number_of}

-- what is read of a text that is a number, or another number where there is no text
pub read_or : {E : Type 0} (G : List ℕ → Result ℕ E → Type 0) (k other n : ℕ) (o x : Option Text) (r : Option ℕ)
    → ((u : List ℕ) (y : Result ℕ E) → G u y → ParsesUnsigned k 10 u y)
    → o ≡ x → (o ≡ None → r ≡ None) → ((t : Text) → o ≡ Some t → ReadsOne G t r)
    → ((t : Text) → x ≡ Some t → IsNumberBelow (2 ^ k) t)
    → n ≡ unwrap_or r other → n ≡ option_map_or number_of x other
read_or G k other n o None r only same none some number is = is ∙ rw (none same) refl
read_or G k other n o (Some t) r only same none some number is = is ∙ go r (some t same)
  where
    go : (s : Option ℕ) → ReadsOne G t s → unwrap_or s other ≡ number_of t
    go (Some v) h = (only t (Ok v) h).1
    go None h = absurd (only t (Err h.0) h.1 ((number t refl).numeral, (number t refl).small))

-- a numeral begins with no plus sign
no_plus : (ds : List ℕ) → IsNumeral 10 ds → without_leading_plus ds ≡ ds
no_plus [] h = refl
no_plus (d ∷ ds) h =
    let other : (d == 43) ≡ false = ne_eqb _ _ (λ e. omega (arith, digit_from_value d h.1.0)) in
    ap (λ (b : Bool). drop (cond b 1 0) (d ∷ ds)) other

minus_cut : (t : Text) → without_minus t ≡ cond (starts_with_minus t) (drop 1 t) t
minus_cut [] = refl
minus_cut (x ∷ xs) = go (x == 45)
  where
    go : (b : Bool) → unwrap_or (cond b (Some xs) None) (x ∷ xs) ≡ cond b xs (x ∷ xs)
    go true = refl
    go false = refl

-- a text that a signed range takes, with no number below zero in it, is a number in it without its minus sign
pub signed_number : (low high : ℕ) (t : Text) → IsSignedIn (pos low) (pos high) t → IsNumberIn low high (without_minus t)
signed_number low high t passed = subst (IsNumberIn low high) (sym (minus_cut t)) (go (starts_with_minus t) refl)
  where
    go : (b : Bool) → starts_with_minus t ≡ b → IsNumberIn low high (cond b (drop 1 t) t)
    go true minus =
        let numeral : IsNumeral 10 (drop 1 t) = rw minus at passed.0 in
        let above = rw minus at passed.2 in
        let plain = no_plus (drop 1 t) numeral in
        record { numeral = rw plain numeral; low_is = rw plain (omega (arith, ints)); high_is = rw plain (omega (arith, ints)) }
    go false minus =
        let numeral : IsNumeral 10 (without_leading_plus t) = rw minus at passed.0 in
        let above = rw minus at passed.2 in
        let below = rw minus at passed.3 in
        record { numeral = numeral; low_is = omega (arith, ints); high_is = omega (arith, ints) }

pub unsigned_number : (low high : ℕ) (t : Text) → IsUnsignedIn low high t → IsNumberIn low high t
unsigned_number low high t passed = record { numeral = passed.0; low_is = passed.2; high_is = passed.3 }

pub number_below : (low high bound : ℕ) (t : Text) → high < bound → IsNumberIn low high t → IsNumberBelow bound t
number_below low high bound t fits number = record { numeral = number.numeral; small = omega (arith, number.high_is) }

-- a number that is there, or another in the same range
pub number_there : (low high other : ℕ) (o : Option Text) → is_some o ≡ true → ((t : Text) → o ≡ Some t → IsNumberIn low high t)
    → (low ≤ option_map_or number_of o other) × (option_map_or number_of o other ≤ high)
number_there low high other None there number = absurd (cc)
number_there low high other (Some t) there number = ((number t refl).low_is, (number t refl).high_is)

pub number_maybe : (low high other : ℕ) (o : Option Text) → low ≤ other → other ≤ high → ((t : Text) → o ≡ Some t → IsNumberIn low high t)
    → (low ≤ option_map_or number_of o other) × (option_map_or number_of o other ≤ high)
number_maybe low high other None least most number = (least, most)
number_maybe low high other (Some t) least most number = ((number t refl).low_is, (number t refl).high_is)
