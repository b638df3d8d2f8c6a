-- Entries that are found from the front on.
use Rattle.std.proofs.Common.{◌≡◌, ◌≢◌, ℕ, ◌+◌, ◌-◌, ◌≤◌, ◌<◌, min, Bool, false, true, not, List, [], ◌∷◌, ◌++◌, length, take, drop, Option, None, Some, refl, arith, ◌∙◌, ap, sym, subst, nat_lt, length-append, flat_map, length-drop, inl, inr, ◌⊎◌, replicate}
use Rattle.std.specs.Prelude.{Err, IfSome, bytes_eq, Decides}
use Rattle.std.specs.List.{AllByRecursion}
use Rattle.std.specs.Int.{w32, to_be_bytes, from_be_bytes}
use Rattle.std.proofs.Math.Seq.{take-add}
use Rattle.std.proofs.lemmas.Bool.Decides.{nat_tests}
use Rattle.std.proofs.lemmas.Slice.Eq.{bytes_eq-Decides}
use Rattle.std.proofs.lemmas.List.{take-append-drop, length-take, flat_map_more, length-replicate, take_all}
use Rattle.demi_spec.specs.LogText.{header, entry, log_text, IsPayload, entries, entry_front, length_that_fits}
use Rattle.demi_spec.proofs.LogTexts.{entries_bad, entries_headless}
use Rattle.demi_logq.specs.Logged.{Found, ends_from, end_of}
use Rattle.demi_logq.specs.declared.refusal.LogRefusal.TheVariants.{BadLog}

refuted : (b : Bool) (xs ys : List ℕ) → Decides b (xs ≡ ys) → xs ≢ ys → b ≡ false
refuted true xs ys d never = absurd (never (d.0 refl))
refuted false xs ys d never = refl

-- a text that does not begin with the header
headless : (b : List ℕ) → 0 < length b → take 8 b ≢ header → entries b ≡ Err 0
headless b some other = entries_headless b some (refuted (bytes_eq (take 8 b) header) (take 8 b) header (bytes_eq-Decides (take 8 b) header) other)

denied : (b : Bool) → not b ≡ true → b ≡ true → ⊥
denied true is such = cc
denied false is such = cc

-- what was read of the header shows that it is not there
pub no_header : (told : Option (List ℕ)) (held count : ℕ) (room : List ℕ) → IfSome told (λ b. length b ≡ held) → 0 < held
    → count ≡ min 8 (held - 0) → length room ≡ 8 → IfSome told (λ b. take count room ≡ take count (drop 0 b)) → (count < 8) ⊎ (not (bytes_eq room header) ≡ true)
    → IfSome told (λ b. entries b ≡ Err 0)
no_header None held count room long some is eight read why = tt
no_header (Some b) held count room long some is eight read (inl less) =
    headless b (omega arith) (λ e. let l : length (take 8 b) ≡ 8 = ap length e in omega (arith, length-take 8 b))
no_header (Some b) held count room long some is eight read (inr other) = headless b (omega arith) (λ e. denied (bytes_eq room header) other ((bytes_eq-Decides room header).1 (all e)))
  where
    all : take 8 b ≡ header → room ≡ header
    all e =
        let l : length (take 8 b) ≡ 8 = ap length e in
        let whole : count ≡ 8 = omega (arith, length-take 8 b) in
        let here : take count room ≡ room = take_all count room (omega arith) in
        sym here ∙ read ∙ ap (λ n. take n b) whole ∙ e

-- what is told of the same bytes
pub told_as : (o o' : Option (List ℕ)) (n m : ℕ) (l : List ℕ) → o ≡ o' → IfSome o (λ b. take n l ≡ take n (drop m b)) → IfSome o' (λ b. take n l ≡ take n (drop m b))
told_as o o' n m l same = subst (λ (x : Option (List ℕ)). IfSome x (λ b. take n l ≡ take n (drop m b))) same

-- no entry stands whole at a place
bad_here : (b : List ℕ) (at : ℕ) (before : List (List ℕ)) → AllByRecursion IsPayload before → at ≡ end_of before → take at b ≡ log_text before
    → at < length b → entry_front (drop at b) ≡ None → entries b ≡ Err at
bad_here b at before fits here text less none =
    let some : 0 < length (drop at b) = omega (arith, length-drop at b) in
    let apart : b ≡ log_text before ++ drop at b = sym (take-append-drop at b) ∙ ap (λ (l : List ℕ). l ++ drop at b) text in
    ap entries apart ∙ entries_bad before (drop at b) fits some none ∙ ap Err (sym here)

few_front : (b : List ℕ) → length b < 4 → entry_front b ≡ None
unfolding entry_front
few_front b less = grind (arith, nat_tests)

misfit : (n room : ℕ) → (n ≡ 0) ⊎ ((65798 < n) ⊎ (room < n)) → length_that_fits n room ≡ None
misfit n room (inl is) = grind (arith, nat_tests)
misfit n room (inr (inl is)) = grind (arith, nat_tests)
misfit n room (inr (inr is)) = grind (arith, nat_tests)

wrong_front : (b : List ℕ) (n : ℕ) → 4 ≤ length b → n ≡ from_be_bytes w32 (take 4 b) → (n ≡ 0) ⊎ ((65798 < n) ⊎ (length b - 4 < n)) → entry_front b ≡ None
unfolding entry_front
wrong_front b n long is why =
    let four : nat_lt (length b) 4 ≡ false = grind (arith, nat_tests) in
    rw four (ap (λ m. length_that_fits m (length b - 4)) (sym is) ∙ misfit n (length b - 4) why)

-- a field that is cut off
pub short_field : (told : Option (List ℕ)) (held : ℕ) (ends : List ℕ) (at count : ℕ) → Found told held ends at → IfSome told (λ b. length b ≡ held) → at < held
    → count ≡ min 4 (held - at) → count < 4 → IfSome told (λ b. entries b ≡ Err at)
short_field None held ends at count f long less is few = tt
short_field (Some b) held ends at count f long less is few =
    let short : length (drop at b) < 4 = omega (arith, length-drop at b) in
    bad_here b at f.before f.fits f.here f.text (omega arith) (few_front (drop at b) short)

-- a field of four bytes that was read whole
whole_field : (b field : List ℕ) (at count : ℕ) → length field ≡ 4 → count ≡ 4 → take count field ≡ take count (drop at b) → field ≡ take 4 (drop at b)
whole_field b field at count four is read =
    let here : take count field ≡ field = take_all count field (omega arith) in
    sym here ∙ read ∙ ap (λ n. take n (drop at b)) is

-- a length that does not fit
pub wrong_field : (told : Option (List ℕ)) (held : ℕ) (ends : List ℕ) (at count n : ℕ) (field : List ℕ) → Found told held ends at → IfSome told (λ b. length b ≡ held) → at < held
    → count ≡ min 4 (held - at) → 4 ≤ count → length field ≡ 4 → IfSome told (λ b. take count field ≡ take count (drop at b)) → n ≡ from_be_bytes w32 field
    → (n ≡ 0) ⊎ ((65798 < n) ⊎ (held - at - 4 < n)) → IfSome told (λ b. entries b ≡ Err at)
wrong_field None held ends at count n field f long less is whole four read value why = tt
wrong_field (Some b) held ends at count n field f long less is whole four read value why =
    let four_there : 4 ≤ length (drop at b) = omega (arith, length-drop at b) in
    let same : field ≡ take 4 (drop at b) = whole_field b field at count four (omega arith) read in
    let rest : held - at - 4 ≡ length (drop at b) - 4 = omega (arith, length-drop at b) in
    let why' = subst (λ (r : ℕ). (n ≡ 0) ⊎ ((65798 < n) ⊎ (r < n))) rest why in
    bad_here b at f.before f.fits f.here f.text (omega arith) (wrong_front (drop at b) n four_there (value ∙ ap (from_be_bytes w32) same) why')

-- one payload more
pub fits_more : (before : List (List ℕ)) (p : List ℕ) → AllByRecursion IsPayload before → IsPayload p → AllByRecursion IsPayload (before ++ p ∷ [])
fits_more [] p all one = (one, tt)
fits_more (q ∷ before) p all one = (all.0, fits_more before p all.1 one)

pub text_more : (before : List (List ℕ)) (p : List ℕ) → log_text (before ++ p ∷ []) ≡ log_text before ++ entry p
text_more before p = sym (flat_map_more entry header before p)

pub end_more : (before : List (List ℕ)) (p : List ℕ) → end_of (before ++ p ∷ []) ≡ end_of before + (4 + length p)
end_more before p = ap length (text_more before p) ∙ length-append (log_text before) (entry p) ∙ ap (λ n. end_of before + n) (omega arith)

pub ends_more : (at : ℕ) (before : List (List ℕ)) (p : List ℕ) → ends_from at (before ++ p ∷ []) ≡ ends_from at before ++ (at + length (flat_map entry before) + (4 + length p)) ∷ []
ends_more at [] p = ap (λ n. n ∷ []) (omega arith)
ends_more at (q ∷ before) p =
    let place : at + (4 + length q) + length (flat_map entry before) + (4 + length p) ≡ at + length (entry q ++ flat_map entry before) + (4 + length p) = omega (arith, length-append q (flat_map entry before)) in
    ap (λ (l : List ℕ). (at + (4 + length q)) ∷ l) (ends_more (at + (4 + length q)) before p ∙ ap (λ n. ends_from (at + (4 + length q)) before ++ n ∷ []) place)

-- what is found with one entry more
more_found : (told : Option (List ℕ)) (held : ℕ) (ends ends' : List ℕ) (at n : ℕ) (p : List ℕ) → Found told held ends at → 0 < n → n ≤ 65798 → at + (4 + n) ≤ held → length p ≡ n
    → IfSome told (λ b. take (4 + n) (drop at b) ≡ entry p) → ends' ≡ ends ++ (at + (4 + n)) ∷ [] → Found told held ends' (at + (4 + n))
more_found told held ends ends' at n p f some most within long there grown = record {
  before = f.before ++ p ∷ [];
  fits = fits_more f.before p f.fits (omega arith, omega arith);
  places =
      let e : 8 + length (flat_map entry f.before) + (4 + length p) ≡ at + (4 + n) = omega (arith, f.here) in
      grown ∙ ap (λ (l : List ℕ). l ++ (at + (4 + n)) ∷ []) f.places ∙ ap (λ m. ends_from 8 f.before ++ m ∷ []) (sym e) ∙ sym (ends_more 8 f.before p);
  here = omega (arith, f.here, end_more f.before p);
  within = within;
  text = text_of told f.text there;
}
  where
    text_of : (o : Option (List ℕ)) → IfSome o (λ b. take at b ≡ log_text f.before) → IfSome o (λ b. take (4 + n) (drop at b) ≡ entry p) → IfSome o (λ b. take (at + (4 + n)) b ≡ log_text (f.before ++ p ∷ []))
    text_of None first second = tt
    text_of (Some b) first second = take-add at (4 + n) b ∙ ap (λ (l : List ℕ). l ++ take (4 + n) (drop at b)) first ∙ ap (λ (l : List ℕ). log_text f.before ++ l) second ∙ sym (text_more f.before p)

-- the bytes of an entry
entry_there : (c field : List ℕ) (n : ℕ) → length field ≡ 4 → field ≡ take 4 c → to_be_bytes w32 n ≡ field → 4 + n ≤ length c
    → (length (take n (drop 4 c)) ≡ n) × (take (4 + n) c ≡ entry (take n (drop 4 c)))
entry_there c field n four same spelled enough =
    let l : length (take n (drop 4 c)) ≡ n = omega (arith, length-take n (drop 4 c), length-drop 4 c) in
    let e : to_be_bytes w32 (length (take n (drop 4 c))) ≡ field = ap (to_be_bytes w32) l ∙ spelled in
    (l, take-add 4 n c ∙ ap (λ (x : List ℕ). x ++ take n (drop 4 c)) (sym (e ∙ same)))

pub entry_found : (told : Option (List ℕ)) (held : ℕ) (ends ends' : List ℕ) (at count n : ℕ) (field : List ℕ) → Found told held ends at → IfSome told (λ b. length b ≡ held)
    → count ≡ min 4 (held - at) → 4 ≤ count → length field ≡ 4 → to_be_bytes w32 n ≡ field → IfSome told (λ b. take count field ≡ take count (drop at b))
    → 0 < n → n ≤ 65798 → at + (4 + n) ≤ held → ends' ≡ ends ++ (at + (4 + n)) ∷ [] → Found told held ends' (at + (4 + n))
entry_found None held ends ends' at count n field f long is whole four spelled read some most within grown =
    more_found None held ends ends' at n (replicate n 0) f some most within (length-replicate n 0) tt grown
entry_found (Some b) held ends ends' at count n field f long is whole four spelled read some most within grown =
    let same : field ≡ take 4 (drop at b) = whole_field b field at count four (omega arith) read in
    let enough : 4 + n ≤ length (drop at b) = omega (arith, length-drop at b) in
    let e = entry_there (drop at b) field n four same spelled enough in
    more_found (Some b) held ends ends' at n (take n (drop 4 (drop at b))) f some most within e.0 e.1 grown

-- an offset that was answered
pub bad_at : (told : Option (List ℕ)) (at : ℕ) → IfSome told (λ b. entries b ≡ Err at) → (other : ℕ) → BadLog at ≡ BadLog other → IfSome told (λ b. entries b ≡ Err other)
bad_at None at bad other same = tt
bad_at (Some b) at bad other same = let e : at ≡ other = cc in bad ∙ ap Err e
