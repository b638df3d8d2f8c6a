-- What is read of a log text is what it spells, and an offset that is answered is that of its first bad byte.
use Rattle.std.proofs.Common.{◌≡◌, ℕ, zero, suc, ◌+◌, ◌-◌, ◌≤◌, ◌<◌, Bool, false, true, ◌||◌, List, [], ◌∷◌, ◌++◌, length, take, drop, Option, None, Some, refl, arith, ◌∙◌, ap, sym, subst, cond, nat_lt, inl, inr, append_assoc, length-append, length-drop, flat_map}
use Rattle.std.specs.Prelude.{Result, Ok, Err, bytes_eq, Decides, ◌==◌, ◌↔◌, if◌then◌else◌}
use Rattle.std.specs.List.{AllByRecursion}
use Rattle.std.specs.Int.{w32, to_be_bytes, from_be_bytes}
use Rattle.std.proofs.lemmas.Bool.Decides.{nat_tests}
use Rattle.std.proofs.lemmas.Bool.{cases_lt}
use Rattle.std.proofs.lemmas.Slice.Eq.{bytes_eq-Decides}
use Rattle.std.proofs.lemmas.List.{take-append-drop, length-take, get_or-take, get_or-drop, get_or_past}
use Rattle.std.proofs.lemmas.Nat.{be_bytes_4}
use Rattle.demi_spec.specs.Request.{IsBytes}
use Rattle.demi_spec.specs.LogText.{header, entry, log_text, IsPayload, IsLog, NoEntry, HasNoHeader, IsBadAt, entries, entries_within, entry_front, length_that_fits, after_entry, put_first}
use Rattle.demi_spec.proofs.LogTexts.{front_of_entry, entries_text, entries_bad, entries_headless}

-- a part of bytes is bytes
pub drop_bytes : (n : ℕ) (b : List ℕ) → IsBytes b → IsBytes (drop n b)
drop_bytes n b fits i = rw get_or-drop (fits (n + i))

pub take_bytes : (n : ℕ) (b : List ℕ) → IsBytes b → IsBytes (take n b)
take_bytes n b fits i = elim (cases_lt i n) [
  | inl less ↦ rw get_or-take (fits i)
  | inr more ↦ let out : length (take n b) ≤ i = omega (arith, length-take n b) in rw (get_or_past (take n b) i 0 out) (omega arith)
]

pub behind : (front rest : List ℕ) → IsBytes (front ++ rest) → IsBytes rest
behind [] rest are = are
behind (x ∷ front) rest are = behind front rest (λ i. are (suc i))

-- a length that fits
fits_out : (size room n : ℕ) → length_that_fits size room ≡ Some n → (size ≡ n) × (0 < size) × (size ≤ 65798) × (size ≤ room)
fits_out size room n h = go (size == 0) (nat_lt 65798 size) (nat_lt room size) refl refl refl h
  where
    go : (a b c : Bool) → a ≡ (size == 0) → b ≡ nat_lt 65798 size → c ≡ nat_lt room size → cond (a || b || c) None (Some size) ≡ Some n
        → (size ≡ n) × (0 < size) × (size ≤ 65798) × (size ≤ room)
    go false false false p q r h = (cc, grind (arith, nat_tests), grind (arith, nat_tests), grind (arith, nat_tests))
    go true b c p q r h = absurd (cc)
    go false true c p q r h = absurd (cc)
    go false false true p q r h = absurd (cc)

-- which length the entry at the front has
front_size : (b : List ℕ) (n : ℕ) → entry_front b ≡ Some n → (4 ≤ length b) × (length_that_fits (from_be_bytes w32 (take 4 b)) (length b - 4) ≡ Some n)
unfolding entry_front
front_size b n h = go (nat_lt (length b) 4) refl h
  where
    go : (t : Bool) → t ≡ nat_lt (length b) 4 → cond t None (length_that_fits (from_be_bytes w32 (take 4 b)) (length b - 4)) ≡ Some n
        → (4 ≤ length b) × (length_that_fits (from_be_bytes w32 (take 4 b)) (length b - 4) ≡ Some n)
    go true p h = absurd (cc)
    go false p h = (grind (arith, nat_tests), h)

-- an entry that was found at the front is spelled there
pub record Stands (b : List ℕ) (n : ℕ) : Type 0 where
  pub fits : IsPayload (take n (drop 4 b))
  pub text : b ≡ entry (take n (drop 4 b)) ++ drop n (drop 4 b)
  pub long : length (take n (drop 4 b)) ≡ n

pub entry_stands : (b : List ℕ) (n : ℕ) → IsBytes b → entry_front b ≡ Some n → Stands b n
entry_stands b n fits h =
    let f = front_size b n h in
    let s = fits_out (from_be_bytes w32 (take 4 b)) (length b - 4) n f.1 in
    let four : length (take 4 b) ≡ 4 = let l = f.0 in omega (arith, length-take 4 b) in
    let l : length (take n (drop 4 b)) ≡ n = let a = s.3 in let e = s.0 in omega (arith, length-take n (drop 4 b), length-drop 4 b) in
    let field : to_be_bytes w32 n ≡ take 4 b = be_bytes_4 (take 4 b) n four (take_bytes 4 b fits) (sym s.0) in
    let here : to_be_bytes w32 (length (take n (drop 4 b))) ≡ take 4 b = ap (to_be_bytes w32) l ∙ field in
    record {
      fits = (let a = s.1 in let e = s.0 in omega arith, let a = s.2 in let e = s.0 in omega arith);
      text = sym (take-append-drop 4 b) ∙ ap (λ (x : List ℕ). x ++ drop 4 b) (sym here) ∙ ap (λ (x : List ℕ). to_be_bytes w32 (length (take n (drop 4 b))) ++ x) (sym (take-append-drop n (drop 4 b)))
          ∙ sym (append_assoc (to_be_bytes w32 (length (take n (drop 4 b)))) (take n (drop 4 b)) (drop n (drop 4 b)));
      long = l;
    }

-- where none was found none stands, and the other way round
pub none_stands : (b : List ℕ) → entry_front b ≡ None → NoEntry b
none_stands b h p more fits e = let f = sym h ∙ ap entry_front e ∙ front_of_entry p more fits in cc

pub none_found : (b : List ℕ) → IsBytes b → NoEntry b → entry_front b ≡ None
none_found b fits none = go (entry_front b) refl
  where
    go : (o : Option ℕ) → entry_front b ≡ o → entry_front b ≡ None
    go None e = e
    go (Some n) e = let s = entry_stands b n fits e in absurd (none (take n (drop 4 b)) (drop n (drop 4 b)) s.fits s.text)

-- what was read from a place on
pub record ReadBad (at : ℕ) (b : List ℕ) (bad : ℕ) : Type 0 where
  pub before : List (List ℕ)
  pub rest : List ℕ
  pub fits : AllByRecursion IsPayload before
  pub text : b ≡ flat_map entry before ++ rest
  pub place : bad ≡ at + length (flat_map entry before)
  pub some : 0 < length rest
  pub none : entry_front rest ≡ None

abbrev pub ReadOff : ℕ → List ℕ → Result (List (List ℕ)) ℕ → Type 0
ReadOff at b (Ok payloads) = (b ≡ flat_map entry payloads) × AllByRecursion IsPayload payloads
ReadOff at b (Err bad) = ReadBad at b bad

-- one entry more in front
one_more : (at n : ℕ) (b : List ℕ) (out : Result (List (List ℕ)) ℕ) → Stands b n → ReadOff (at + (4 + n)) (drop n (drop 4 b)) out → ReadOff at b (put_first (take n (drop 4 b)) out)
one_more at n b (Ok payloads) s r = (s.text ∙ ap (λ (x : List ℕ). entry (take n (drop 4 b)) ++ x) r.0, (s.fits, r.1))
one_more at n b (Err bad) s r = record {
  before = take n (drop 4 b) ∷ r.before;
  rest = r.rest;
  fits = (s.fits, r.fits);
  text = s.text ∙ ap (λ (x : List ℕ). entry (take n (drop 4 b)) ++ x) r.text ∙ sym (append_assoc (entry (take n (drop 4 b))) (flat_map entry r.before) r.rest);
  place = (let l = s.long in let p = r.place in omega (arith, length-append (entry (take n (drop 4 b))) (flat_map entry r.before)));
  some = r.some;
  none = r.none;
}

within_off : (n at : ℕ) (b : List ℕ) → IsBytes b → length b < n → ReadOff at b (entries_within n at b)
unfolding entries_within
within_off zero at b fits less = absurd (omega arith)
within_off (suc n) at [] fits less = (refl, tt)
within_off (suc n) at (x ∷ b) fits less = go (λ m k k_fits shorter. within_off n (at + (4 + m)) k k_fits shorter) (entry_front (x ∷ b)) refl
  where
    go : ((m : ℕ) (k : List ℕ) → IsBytes k → length k < n → ReadOff (at + (4 + m)) k (entries_within n (at + (4 + m)) k))
        → (o : Option ℕ) → entry_front (x ∷ b) ≡ o → ReadOff at (x ∷ b) (after_entry at (x ∷ b) o (λ next rest. entries_within n next rest))
    go on None e = record { before = []; rest = x ∷ b; fits = tt; text = refl; place = omega arith; some = omega arith; none = e }
    go on (Some m) e = let s = entry_stands (x ∷ b) m fits e in let k : List ℕ = drop m (drop 4 (x ∷ b)) in
        let shorter : length k < n = let l = s.fits.0 in omega (arith, length-drop m (drop 4 (x ∷ b)), length-drop 4 (x ∷ b)) in
        one_more at m (x ∷ b) (entries_within n (at + (4 + m)) k) s (on m k (drop_bytes m (drop 4 (x ∷ b)) (drop_bytes 4 (x ∷ b) fits)) shorter)

-- what is answered of a whole text
abbrev pub ReadAll : List ℕ → Result (List (List ℕ)) ℕ → Type 0
ReadAll bytes (Ok payloads) = IsLog bytes payloads
ReadAll bytes (Err at) = IsBadAt bytes at

headed_all : (bytes rest : List ℕ) (out : Result (List (List ℕ)) ℕ) → bytes ≡ header ++ rest → ReadOff 8 rest out → ReadAll bytes out
headed_all bytes rest (Ok payloads) e r = inr (e ∙ ap (λ (x : List ℕ). header ++ x) r.0, r.1)
headed_all bytes rest (Err at) e r = inr (record {
  before = r.before;
  rest = r.rest;
  fits = r.fits;
  text = e ∙ ap (λ (x : List ℕ). header ++ x) r.text ∙ sym (append_assoc header (flat_map entry r.before) r.rest);
  place = r.place ∙ sym (length-append header (flat_map entry r.before));
  some = r.some;
  none = none_stands r.rest r.none;
})

refuted : (b : Bool) (xs ys : List ℕ) → Decides b (xs ≡ ys) → (xs ≡ ys → ⊥) → b ≡ false
refuted true xs ys d never = absurd (never (d.0 refl))
refuted false xs ys d never = refl

pub read_all : (bytes : List ℕ) → IsBytes bytes → ReadAll bytes (entries bytes)
unfolding entries
read_all [] fits = inl (refl, refl)
read_all (x ∷ b) fits = go (bytes_eq (take 8 (x ∷ b)) header) refl
  where
    go : (t : Bool) → bytes_eq (take 8 (x ∷ b)) header ≡ t → ReadAll (x ∷ b) (if t then entries_within (length (x ∷ b)) 8 (drop 8 (x ∷ b)) else Err 0)
    go true e = let h : take 8 (x ∷ b) ≡ header = (bytes_eq-Decides (take 8 (x ∷ b)) header).0 e in
        let text : (x ∷ b) ≡ header ++ drop 8 (x ∷ b) = sym (take-append-drop 8 (x ∷ b)) ∙ ap (λ (l : List ℕ). l ++ drop 8 (x ∷ b)) h in
        let shorter : length (drop 8 (x ∷ b)) < length (x ∷ b) = omega (arith, length-drop 8 (x ∷ b)) in
        headed_all (x ∷ b) (drop 8 (x ∷ b)) (entries_within (length (x ∷ b)) 8 (drop 8 (x ∷ b))) text (within_off (length (x ∷ b)) 8 (drop 8 (x ∷ b)) (drop_bytes 8 (x ∷ b) fits) shorter)
    go false e = inl ((omega arith, λ rest is. (let t : bytes_eq (take 8 (x ∷ b)) header ≡ true = (bytes_eq-Decides (take 8 (x ∷ b)) header).1 (ap (take 8) is) in cc)), refl)

-- a text that does not begin with the header
pub no_header : (bytes : List ℕ) → HasNoHeader bytes → entries bytes ≡ Err 0
no_header bytes h = entries_headless bytes h.0 (refuted (bytes_eq (take 8 bytes) header) (take 8 bytes) header (bytes_eq-Decides (take 8 bytes) header)
    (λ e. h.1 (drop 8 bytes) (sym (take-append-drop 8 bytes) ∙ ap (λ (l : List ℕ). l ++ drop 8 bytes) e)))

pub read_log : (bytes : List ℕ) (payloads : List (List ℕ)) → IsLog bytes payloads → entries bytes ≡ Ok payloads
unfolding entries
read_log bytes payloads (inl (e, none)) = ap entries e ∙ ap Ok (sym none)
read_log bytes payloads (inr (e, fits)) = ap entries e ∙ entries_text payloads fits

pub bad_log : (bytes : List ℕ) (at : ℕ) → IsBytes bytes → IsBadAt bytes at → entries bytes ≡ Err at
bad_log bytes at fits (inl (none, e)) = no_header bytes none ∙ ap Err (sym e)
bad_log bytes at fits (inr b) =
    let rest : IsBytes b.rest = behind (log_text b.before) b.rest (subst IsBytes b.text fits) in
    ap entries b.text ∙ entries_bad b.before b.rest b.fits b.some (none_found b.rest rest b.none) ∙ ap Err (sym b.place)

-- both ways
pub entries_are : (bytes : List ℕ) (payloads : List (List ℕ)) → IsBytes bytes → (entries bytes ≡ Ok payloads) ↔ IsLog bytes payloads
entries_are bytes payloads fits = (λ e. subst (ReadAll bytes) e (read_all bytes fits), read_log bytes payloads)

pub entries_refuse : (bytes : List ℕ) (at : ℕ) → IsBytes bytes → (entries bytes ≡ Err at) ↔ IsBadAt bytes at
entries_refuse bytes at fits = (λ e. subst (ReadAll bytes) e (read_all bytes fits), bad_log bytes at fits)
