use Rattle.std.proofs.Common.{◌≡◌, ◌<◌, true, List, [], ◌∷◌, ℕ, subst, sym, refl, arith}
use Rattle.std.specs.Prelude.{IsUtf8, IsAscii, nat_lt}
use Rattle.std.specs.List.{list_all}
use Rattle.std.proofs.lemmas.Bool.{and_parts}
use Rattle.std.proofs.lemmas.Bool.Decides.{nat_tests}
use Rattle.std.proofs.lemmas.Str.{IsUtf8-from_ascii}
use Rattle.std.proofs.lemmas.Str.Ascii.{IsAscii-nil, IsAscii-cons}
use Rattle.hex.specs.Hex.{lower_digits}
use Rattle.hex.proofs.HexLemmas.{IsAscii-encode_with}
use Rattle.demi_cli.proofs.printing.push_key.Goals as goal

-- text whose codes are small is ASCII
small_codes : (text : List ℕ) → list_all (λ b. nat_lt b 128) text ≡ true → IsAscii text
small_codes [] e = IsAscii-nil
small_codes (b ∷ text) e =
    let p = and_parts (nat_lt b 128) (list_all (λ c. nat_lt c 128) text) e in
    let is = p.0 in
    let less : b < 128 = grind (arith, nat_tests) in
    IsAscii-cons b text less (small_codes text p.1)

pub unreachable-requires-in_default-from_utf8 : goal.unreachable-requires-in_default-from_utf8
unreachable-requires-in_default-from_utf8 c =
    c.in_default-from_utf8.ensures.cases.0
    (subst (λ (l : List ℕ). IsUtf8 l) (sym c.in-Ok.ensures.written) (IsUtf8-from_ascii _ (IsAscii-encode_with lower_digits c.args.key.now (small_codes lower_digits refl))))
