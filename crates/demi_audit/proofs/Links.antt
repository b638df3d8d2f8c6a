-- Links that are read one after another.
use Rattle.std.proofs.Common.{◌≡◌, ℕ, zero, suc, ◌+◌, ◌≤◌, ◌<◌, Bool, true, false, cond, List, [], ◌∷◌, ◌++◌, length, map, refl, ap, sym, ◌∙◌, subst, arith, append_assoc, nat_lt}
use Rattle.std.specs.Prelude.{Result, Ok, Err, IfErr, IsErrAnd}
use Rattle.std.specs.List.{AllByRecursion}
use Rattle.std.proofs.lemmas.Bool.Decides.{nat_tests}
use Rattle.std.proofs.lemmas.List.{append-nil, map-append}
use Rattle.demi_spec.specs.LogText.{put_first}
use Rattle.demi_served.specs.Talks.{LinkRun}
use Rattle.demi_audit.specs.declared.transcript.LinkPlaces.{LinkPlaces}
use Rattle.demi_audit.specs.Transcript.{links_from, part_at, with_part, link_at}
use Rattle.demi_audit.specs.Reading.{IsInside, link_by}

-- an error that was handed on as it is
pub handed_on : {A : Type 0} (r : Result A ℕ) (e : ℕ) (P : ℕ → Type 0) → IsErrAnd r (λ x. x ≡ e) → P e → IfErr r P
handed_on (Ok v) e P h p = absurd h
handed_on (Err x) e P h p = subst P (sym h) p

-- links in front of what is read behind them
abbrev pub put_all : List LinkRun → Result (List LinkRun) ℕ → Result (List LinkRun) ℕ
put_all xs (Ok ys) = Ok (xs ++ ys)
put_all xs (Err at) = Err at

put_one : (xs : List LinkRun) (x : LinkRun) (r : Result (List LinkRun) ℕ) → put_all xs (put_first x r) ≡ put_all (xs ++ x ∷ []) r
put_one xs x (Ok ys) = ap Ok (sym (append_assoc xs (x ∷ []) ys))
put_one xs x (Err at) = refl

-- one link more was read
pub link_more : (bytes : List ℕ) (places : List LinkPlaces) (p : LinkPlaces) (n m at : ℕ) (all : Result (List LinkRun) ℕ) → m + 1 ≡ n
    → all ≡ put_all (map (link_by bytes) places) (links_from n bytes at)
    → ((k : ℕ) → links_from (suc k) bytes at ≡ put_first (link_by bytes p) (links_from k bytes (p.output + p.output_size)))
    → all ≡ put_all (map (link_by bytes) (places ++ p ∷ [])) (links_from m bytes (p.output + p.output_size))
link_more bytes places p n m at all is so next =
    let e : n ≡ suc m = omega arith in
    so ∙ ap (λ (k : ℕ). put_all (map (link_by bytes) places) (links_from k bytes at)) e
    ∙ ap (put_all (map (link_by bytes) places)) (next m)
    ∙ put_one (map (link_by bytes) places) (link_by bytes p) (links_from m bytes (p.output + p.output_size))
    ∙ ap (λ (l : List LinkRun). put_all l (links_from m bytes (p.output + p.output_size))) (sym (map-append (link_by bytes) places (p ∷ [])))

-- a link is bad
pub link_bad : (bytes : List ℕ) (places : List LinkPlaces) (n at bad : ℕ) (all : Result (List LinkRun) ℕ) → 0 < n
    → all ≡ put_all (map (link_by bytes) places) (links_from n bytes at)
    → ((k : ℕ) → links_from (suc k) bytes at ≡ Err bad) → all ≡ Err bad
link_bad bytes places zero at bad all some so next = absurd (omega arith)
link_bad bytes places (suc n) at bad all some so next = so ∙ ap (put_all (map (link_by bytes) places)) (next n)

none_left : (bytes : List ℕ) (n at : ℕ) → n ≡ 0 → links_from n bytes at ≡ links_from 0 bytes at
none_left bytes n at is = ap (λ k. links_from k bytes at) is

behind_last : (bytes : List ℕ) (at : ℕ) → at < length bytes → links_from 0 bytes at ≡ Err at
unfolding links_from
behind_last bytes at less = let t : nat_lt at (length bytes) ≡ true = grind (arith, nat_tests) in rw t refl

at_end : (bytes : List ℕ) (at : ℕ) → length bytes ≤ at → links_from 0 bytes at ≡ Ok []
unfolding links_from
at_end bytes at most = let t : nat_lt at (length bytes) ≡ false = grind (arith, nat_tests) in rw t refl

-- bytes follow the last link, or none
pub links_followed : (bytes : List ℕ) (places : List LinkPlaces) (n at : ℕ) (all : Result (List LinkRun) ℕ) → n ≡ 0
    → all ≡ put_all (map (link_by bytes) places) (links_from n bytes at) → at < length bytes → all ≡ Err at
links_followed bytes places n at all is so less = so ∙ ap (put_all (map (link_by bytes) places)) (none_left bytes n at is ∙ behind_last bytes at less)

pub links_end : (bytes : List ℕ) (places : List LinkPlaces) (n at : ℕ) (all : Result (List LinkRun) ℕ) → n ≡ 0
    → all ≡ put_all (map (link_by bytes) places) (links_from n bytes at) → length bytes ≤ at → all ≡ Ok (map (link_by bytes) places)
links_end bytes places n at all is so most =
    so ∙ ap (put_all (map (link_by bytes) places)) (none_left bytes n at is ∙ at_end bytes at most) ∙ ap Ok (append-nil (map (link_by bytes) places))

-- one link by its two parts
pub link_is : (bytes : List ℕ) (at input output n : ℕ) → part_at bytes at ≡ Ok input → part_at bytes (at + 8 + input) ≡ Ok output
    → links_from (suc n) bytes at ≡ put_first (link_at bytes (at + 8) input (at + 8 + input + 8) output) (links_from n bytes (at + 8 + input + 8 + output))
unfolding links_from
link_is bytes at input output n one two = rw one (rw two refl)

pub input_bad : (bytes : List ℕ) (at bad n : ℕ) → part_at bytes at ≡ Err bad → links_from (suc n) bytes at ≡ Err bad
unfolding links_from
input_bad bytes at bad n one = rw one refl

pub output_bad : (bytes : List ℕ) (at input bad n : ℕ) → part_at bytes at ≡ Ok input → part_at bytes (at + 8 + input) ≡ Err bad → links_from (suc n) bytes at ≡ Err bad
unfolding links_from
output_bad bytes at input bad n one two = rw one (rw two refl)

pub inside_more : (size : ℕ) (places : List LinkPlaces) (p : LinkPlaces) → AllByRecursion (IsInside size) places → IsInside size p → AllByRecursion (IsInside size) (places ++ p ∷ [])
inside_more size [] p all one = (one, tt)
inside_more size (q ∷ places) p all one = (all.0, inside_more size places p all.1 one)

-- as many links are read as are asked for
pub links_count : (n : ℕ) (bytes : List ℕ) (at : ℕ) (ls : List LinkRun) → links_from n bytes at ≡ Ok ls → length ls ≡ n
unfolding links_from
links_count zero bytes at ls h = none (nat_lt at (length bytes)) h
  where
    none : (b : Bool) → cond b (Err at) (Ok []) ≡ Ok ls → length ls ≡ 0
    none true t = absurd (cc)
    none false t = let e : ls ≡ [] = cc in ap length e
links_count (suc n) bytes at ls h = first (λ next. links_count n bytes next) (part_at bytes at) h
  where
    third : (x : LinkRun) (r : Result (List LinkRun) ℕ) → ((xs : List LinkRun) → r ≡ Ok xs → length xs ≡ n) → put_first x r ≡ Ok ls → length ls ≡ suc n
    third x (Ok xs) more t = let e : ls ≡ x ∷ xs = cc in ap length e ∙ ap suc (more xs refl)
    third x (Err bad) more t = absurd (cc)

    second : ((next : ℕ) (xs : List LinkRun) → links_from n bytes next ≡ Ok xs → length xs ≡ n) → (input : ℕ) (r : Result ℕ ℕ) → with_part r (λ output. put_first (link_at bytes (at + 8) input (at + 8 + input + 8) output) (links_from n bytes (at + 8 + input + 8 + output))) ≡ Ok ls → length ls ≡ suc n
    second more input (Ok output) t = third (link_at bytes (at + 8) input (at + 8 + input + 8) output) (links_from n bytes (at + 8 + input + 8 + output)) (more (at + 8 + input + 8 + output)) t
    second more input (Err bad) t = absurd (cc)

    first : ((next : ℕ) (xs : List LinkRun) → links_from n bytes next ≡ Ok xs → length xs ≡ n) → (r : Result ℕ ℕ) → with_part r (λ input. with_part (part_at bytes (at + 8 + input)) (λ output. put_first (link_at bytes (at + 8) input (at + 8 + input + 8) output) (links_from n bytes (at + 8 + input + 8 + output)))) ≡ Ok ls → length ls ≡ suc n
    first more (Ok input) t = second more input (part_at bytes (at + 8 + input)) t
    first more (Err bad) t = absurd (cc)
