-- The parts of an array that are written.
use Rattle.std.proofs.Common.{◌≡◌, ℕ, zero, suc, ◌+◌, ◌-◌, ◌<◌, ◌≤◌, List, [], ◌∷◌, ◌++◌, length, take, drop, Bool, true, false, cond, Option, refl, ap, sym, ◌∙◌, subst, arith, append_assoc, length-append, length-drop}
use Rattle.std.specs.Prelude.{ltb}
use Rattle.std.specs.Io.KnownBytes.{append_known}
use Rattle.std.proofs.lemmas.Bool.Decides.{nat_tests}
use Rattle.std.proofs.lemmas.List.{drop-append-le, take-append-le}
use Rattle.std.proofs.Math.Seq.{drop-append-add, drop-append_seam, take-add}
use Rattle.demi_heap.specs.Seen.{HalfValue}
use Rattle.demi_sga.specs.Arrays.{byte_count, part_of}
use Rattle.demi_streamq.specs.Sending.{array_bytes, IsPart}
use Rattle.demi_streamq.specs.TxGoing.{known_twice}

pub count_is : (xs : List HalfValue) → length (array_bytes xs) ≡ byte_count xs
count_is [] = refl
count_is (a ∷ xs) = let e = count_is xs in let l = length-append a.bytes (array_bytes xs) in omega arith

take_all : (n : ℕ) (l : List ℕ) → length l ≤ n → take n l ≡ l
take_all zero [] le = refl
take_all zero (x ∷ xs) le = absurd (omega arith)
take_all (suc n) [] le = refl
take_all (suc n) (x ∷ xs) le = ap (λ r. x ∷ r) (take_all n xs (omega arith))

is_below : (a b : ℕ) → ltb a b ≡ true → a < b
is_below a b e = grind (arith, nat_tests)

is_not_below : (a b : ℕ) → ltb a b ≡ false → b ≤ a
is_not_below a b e = grind (arith, nat_tests)

here : (a rest : List ℕ) (count from : ℕ) → length a ≤ count → from < length a → IsPart (a ++ rest) count from (drop from a)
here a rest count from fits lt =
    let d = length-drop from a in
    let e : from + length (drop from a) ≡ length a = omega arith in
    record {
      some = omega arith;
      within = omega arith;
      there = drop-append-le from a rest (omega arith) ∙ ap (λ r. drop from a ++ r) (sym (ap (λ k. drop k (a ++ rest)) e ∙ drop-append_seam a rest));
    }

later : (a rest part : List ℕ) (count from : ℕ) → length a ≤ from → IsPart rest count (from - length a) part → IsPart (a ++ rest) (length a + count) from part
later a rest part count from le is =
    let f = from - length a in
    let e : from ≡ length a + f = omega arith in
    let w = is.within in
    let e2 : from + length part ≡ length a + (f + length part) = omega arith in
    record {
      some = is.some;
      within = omega arith;
      there = ap (λ k. drop k (a ++ rest)) e ∙ drop-append-add a rest f ∙ is.there ∙ ap (λ r. part ++ r) (sym (ap (λ k. drop k (a ++ rest)) e2 ∙ drop-append-add a rest (f + length part)));
    }

pub part_is : (xs : List HalfValue) (from most : ℕ) → from < byte_count xs → byte_count xs ≤ most → IsPart (array_bytes xs) (byte_count xs) from (part_of xs from most)
part_is [] from most lt le = absurd (omega arith)
part_is (a ∷ xs) from most lt le = pick (ltb from (length a.bytes)) refl (λ n. part_is xs (from - length a.bytes) most (omega arith) (omega arith))
  where
    pick : (c : Bool) → ltb from (length a.bytes) ≡ c → (length a.bytes ≤ from → IsPart (array_bytes xs) (byte_count xs) (from - length a.bytes) (part_of xs (from - length a.bytes) most)) → IsPart (a.bytes ++ array_bytes xs) (length a.bytes + byte_count xs) from (cond c (take most (drop from a.bytes)) (part_of xs (from - length a.bytes) most))
    pick true e rest =
        let d = length-drop from a.bytes in
        subst (λ p. IsPart (a.bytes ++ array_bytes xs) (length a.bytes + byte_count xs) from p) (sym (take_all most (drop from a.bytes) (omega arith)))
        (here a.bytes (array_bytes xs) (length a.bytes + byte_count xs) from (omega arith) (is_below from (length a.bytes) e))
    pick false e rest =
        let n = is_not_below from (length a.bytes) e in
        later a.bytes (array_bytes xs) (part_of xs (from - length a.bytes) most) (byte_count xs) from n (rest n)

-- the front of a part is the front of what stands there
pub one_front : (bytes part : List ℕ) (count from k : ℕ) → IsPart bytes count from part → k ≤ length part → take k part ≡ take k (drop from bytes)
one_front bytes part count from k is le = sym (ap (take k) is.there ∙ take-append-le k part (drop (from + length part) bytes) le)

-- and so is that of a part and the one behind it
pub two_fronts : (bytes first second : List ℕ) (count from k : ℕ) → IsPart bytes count from first → IsPart bytes count (from + length first) second → k ≤ length first + length second → take k (first ++ second) ≡ take k (drop from bytes)
two_fronts bytes first second count from k is next le =
    let rest = drop (from + length first + length second) bytes in
    let l = length-append first second in
    sym (ap (take k) (is.there ∙ ap (λ r. first ++ r) next.there ∙ sym (append_assoc first second rest)) ∙ take-append-le k (first ++ second) rest (omega arith))

-- some bytes more were written
pub more_written : (o n m : Option (List ℕ)) (bytes : List ℕ) (at k : ℕ) → n ≡ append_known o (take at bytes) → m ≡ append_known n (take k (drop at bytes)) → m ≡ append_known o (take (at + k) bytes)
more_written o n m bytes at k first second =
    second ∙ ap (λ x. append_known x (take k (drop at bytes))) first ∙ known_twice o (take at bytes) (take k (drop at bytes)) ∙ ap (append_known o) (sym (take-add at k bytes))

-- all were
pub all_written_is : (o n : Option (List ℕ)) (xs : List HalfValue) (at : ℕ) → byte_count xs ≤ at → n ≡ append_known o (take at (array_bytes xs)) → n ≡ append_known o (array_bytes xs)
all_written_is o n xs at le e = let c = count_is xs in e ∙ ap (append_known o) (take_all at (array_bytes xs) (omega arith))
