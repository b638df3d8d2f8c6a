-- What stands next in an input that is in memory.
use Rattle.std.proofs.Common.{◌≡◌, ℕ, ◌+◌, ◌≤◌, true, false, List, [], ◌∷◌, ◌++◌, length, take, drop, min, ◌-◌, length-take, None, refl, ap, sym, ◌∙◌, arith, append_assoc}
use Rattle.std.specs.Prelude.{Bool, ◌==◌}
use Rattle.std.proofs.lemmas.Bool.Decides.{nat_tests}
use Rattle.std.proofs.lemmas.List.{append-nil, take-append-drop, drop-drop, nil_from_length, take-take, take_rest}
use Rattle.demi_spec.specs.Input.{Clean, Refused, Open, Ends, front}
use Rattle.demi_spec.proofs.Fronts.{open_ends, refused_ends, refused_more, ending_of}
use Rattle.demi_frame.specs.Decoding.{code_of}

-- bytes more were fed, which are left as before
pub fed_more : (rest rest' piece input : List ℕ) (fed n : ℕ) → piece ≡ take n (drop fed input) → rest' ≡ rest ++ piece → rest' ++ drop (fed + n) input ≡ rest ++ drop fed input
fed_more rest rest' piece input fed n is grown =
    ap (λ (l : List ℕ). l ++ drop (fed + n) input) (grown ∙ ap (λ (l : List ℕ). rest ++ l) is)
    ∙ ap (λ (l : List ℕ). (rest ++ take n (drop fed input)) ++ l) (sym (drop-drop n fed input))
    ∙ append_assoc rest (take n (drop fed input)) (drop n (drop fed input))
    ∙ ap (λ (l : List ℕ). rest ++ l) (take-append-drop n (drop fed input))

-- a frame is refused whatever follows it
pub refused_left : (rest unfed : List ℕ) (code : ℕ) → front false rest ≡ Ends (Refused code) → front true (rest ++ unfed) ≡ Ends (Refused code)
refused_left rest unfed code refused = refused_ends (rest ++ unfed) code (refused_more rest unfed code refused)

-- all was fed
none_at : (rest : List ℕ) → None ≡ code_of (Ends (ending_of rest)) → ending_of rest ≡ Clean
none_at [] is = refl
none_at (b ∷ rest) is = absurd (cc)

all_fed : (rest unfed : List ℕ) → unfed ≡ [] → rest ++ unfed ≡ rest
all_fed rest unfed none = ap (λ (l : List ℕ). rest ++ l) none ∙ append-nil rest

pub clean_left : (rest unfed : List ℕ) → unfed ≡ [] → front false rest ≡ Ends Open → None ≡ code_of (front true rest) → front true (rest ++ unfed) ≡ Ends Clean
clean_left rest unfed none is_open is =
    let ends : front true rest ≡ Ends (ending_of rest) = open_ends rest is_open in
    ap (front true) (all_fed rest unfed none) ∙ ends ∙ ap Ends (none_at rest (is ∙ ap code_of ends))

-- nothing is left to be fed
pub none_left : (unfed : List ℕ) (b : Bool) → b ≡ (length unfed == 0) → b ≡ true → unfed ≡ []
none_left unfed b is set = let t : (length unfed == 0) ≡ true = sym is ∙ set in nil_from_length unfed (grind (arith, nat_tests))

-- the piece that is fed, of a text of which so many bytes were fed
pub fed_few : (input : List ℕ) (fed m : ℕ) → m ≡ min (length (take (length input - fed) (drop fed input))) 4096
    → (length (take m (take (length input - fed) (drop fed input))) ≤ 4096) × (length (take m (take (length input - fed) (drop fed input))) ≤ length input - fed)
fed_few input fed m is =
    let unfed : List ℕ = take (length input - fed) (drop fed input) in
    (omega (arith, length-take m unfed), omega (arith, length-take m unfed, length-take (length input - fed) (drop fed input)))

pub fed_piece : (input : List ℕ) (fed m n : ℕ) → m ≡ min (length (take (length input - fed) (drop fed input))) 4096 → n ≡ length (take m (take (length input - fed) (drop fed input)))
    → take n (take m (take (length input - fed) (drop fed input))) ≡ take n (drop fed input)
fed_piece input fed m n is all =
    let unfed : List ℕ = take (length input - fed) (drop fed input) in
    let same : n ≡ m = omega (arith, length-take m unfed) in
    take-take n m unfed (omega arith) ∙ ap (take n) (take_rest input fed)
