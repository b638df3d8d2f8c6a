-- The entries of a log text in memory, found from the front on.
use Rattle.std.proofs.Common.{◌≡◌, ℕ, ◌+◌, ◌-◌, ◌≤◌, ◌<◌, min, true, false, List, [], ◌∷◌, ◌++◌, length, take, drop, Some, refl, ap, sym, ◌∙◌, arith, length-drop, inl, inr, ◌⊎◌}
use Rattle.std.specs.Prelude.{Err, Result, bytes_eq}
use Rattle.std.specs.Int.{w32, to_be_bytes, from_be_bytes}
use Rattle.std.proofs.lemmas.List.{append-nil, length-take, take_all, take-take}
use Rattle.std.proofs.lemmas.Slice.Eq.{bytes_eq-Decides}
use Rattle.demi_spec.specs.LogText.{header, entries}
use Rattle.demi_spec.proofs.LogTexts.{entries_headless}
use Rattle.demi_logq.specs.Logged.{Found}
use Rattle.demi_logq.proofs.Places.{short_field, wrong_field, entry_found}
use Rattle.demi_audit.specs.declared.entries.LogFault.TheVariants.{Bad}

pub bad_here : {X : Type 0} (r : Result X ℕ) (a : ℕ) → r ≡ Err a → (b : ℕ) → Bad a ≡ Bad b → r ≡ Err b
bad_here r a is b same = let e : a ≡ b = cc in is ∙ ap Err e

-- a text from a place on
pub behind : (text : List ℕ) (at : ℕ) → take (length text - at) (drop at text) ≡ drop at text
behind text at = take_all (length text - at) (drop at text) (omega (arith, length-drop at text))

pub bad_within : (a n : ℕ) → a ≤ n → (b : ℕ) → Bad a ≡ Bad b → b ≤ n
bad_within a n less b same = let e : a ≡ b = cc in omega (arith, e)

pub headless : (text : List ℕ) → 0 < length text → bytes_eq (take 8 text) header ≡ false → entries text ≡ Err 0
headless text some other = entries_headless text some other

pub found_first : (text : List ℕ) → bytes_eq (take 8 text) header ≡ true → Found (Some text) (length text) [] 8
found_first text is =
    let e : take 8 text ≡ header = (bytes_eq-Decides (take 8 text) header).0 is in
    record {
      before = [];
      fits = tt;
      places = refl;
      here = refl;
      within = omega (arith, ap length e, length-take 8 text);
      text = e ∙ sym (append-nil header);
    }

-- fewer than four bytes are left
pub few_left : (text ends : List ℕ) (at : ℕ) → Found (Some text) (length text) ends at → at < length text → length (drop at text) < 4 → entries text ≡ Err at
few_left text ends at f less few =
    short_field (Some text) (length text) ends at (min 4 (length text - at)) f refl less refl (omega (arith, length-drop at text))

-- the four bytes of a length
four : (text : List ℕ) (at : ℕ) → 4 ≤ length (drop at text) → (4 ≡ min 4 (length text - at)) × (length (take 4 (drop at text)) ≡ 4)
four text at long = (omega (arith, length-drop at text), omega (arith, length-take 4 (drop at text)))

once : (l : List ℕ) → take 4 (take 4 l) ≡ take 4 l
once l = take-take 4 4 l (omega arith)

pub wrong_length : (text ends : List ℕ) (at n : ℕ) → Found (Some text) (length text) ends at → at < length text → 4 ≤ length (drop at text) → n ≡ from_be_bytes w32 (take 4 (drop at text))
    → (n ≡ 0) ⊎ ((65798 < n) ⊎ (length (drop at text) - 4 < n)) → entries text ≡ Err at
wrong_length text ends at n f less long is why =
    let k = four text at long in
    wrong_field (Some text) (length text) ends at 4 n (take 4 (drop at text)) f refl less k.0 (omega arith) k.1 (once (drop at text)) is (moved why)
  where
    moved : (n ≡ 0) ⊎ ((65798 < n) ⊎ (length (drop at text) - 4 < n)) → (n ≡ 0) ⊎ ((65798 < n) ⊎ (length text - at - 4 < n))
    moved (inl e) = inl e
    moved (inr (inl e)) = inr (inl e)
    moved (inr (inr e)) = inr (inr (omega (arith, length-drop at text)))

pub found_more : (text ends ends' : List ℕ) (at n : ℕ) → Found (Some text) (length text) ends at → at < length text → 4 ≤ length (drop at text) → to_be_bytes w32 n ≡ take 4 (drop at text)
    → 0 < n → n ≤ 65798 → n ≤ length (drop at text) - 4 → ends' ≡ ends ++ (at + (4 + n)) ∷ [] → Found (Some text) (length text) ends' (at + (4 + n))
found_more text ends ends' at n f less long spelled some most within grown =
    let k = four text at long in
    entry_found (Some text) (length text) ends ends' at 4 n (take 4 (drop at text)) f refl k.0 (omega arith) k.1 spelled (once (drop at text)) some most (omega (arith, length-drop at text)) grown
