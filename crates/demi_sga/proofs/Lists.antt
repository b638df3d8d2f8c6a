-- Lists of halves.
use Rattle.std.proofs.Common.{◌≡◌, ℕ, zero, suc, ◌+◌, ◌-◌, ◌<◌, ◌≤◌, List, [], ◌∷◌, ◌++◌, length, take, drop, Bool, cond, set, sym, refl, ap, ◌∙◌, subst, arith, length-append, take_all}
use Rattle.std.proofs.lemmas.Bool.{lt-ltb, le-ltb}
use mathlib.Core.Option.{some, some-injective, some-ne-none}
use lib.ListN.{get_elem?}
use Rattle.demi_buf.specs.Bufs.{size_of}
use Rattle.demi_buf.specs.declared.class.Class.{Class}
use Rattle.demi_buf.specs.declared.class.Class.TheVariants.{Small, Page, Large}
use Rattle.demi_heap.specs.Seen.{HeapId, HalfValue}
use Rattle.demi_sga.specs.Arrays.{AreOf, SameSlots, byte_count, part_of, FirstHeld, HeldAt, written_at}

pub size_limit : (c : Class) → size_of c ≤ 65536
size_limit Small = omega arith
size_limit Page = omega arith
size_limit Large = omega arith

-- one segment more
pub bytes_more : (xs : List HalfValue) (i : ℕ) (a : HalfValue) → get_elem? xs i ≡ some a → byte_count (take (i + 1) xs) ≡ byte_count (take i xs) + length a.bytes
bytes_more [] i a e = absurd (some-ne-none a (sym e))
bytes_more (x ∷ xs) zero a e = let is : length x.bytes ≡ length a.bytes = ap (λ (z : HalfValue). length z.bytes) (some-injective x a e) in omega arith
bytes_more (x ∷ xs) (suc i) a e = let r = bytes_more xs i a e in let c : suc i + 1 ≡ suc (i + 1) = omega arith in
    subst (λ (n : ℕ). byte_count (take n (x ∷ xs)) ≡ byte_count (take (suc i) (x ∷ xs)) + length a.bytes) (sym c) (omega arith)

-- the segments from i on
pub drop_at : (xs : List HalfValue) (i : ℕ) (a : HalfValue) → get_elem? xs i ≡ some a → drop i xs ≡ a ∷ drop (i + 1) xs
drop_at [] i a e = absurd (some-ne-none a (sym e))
drop_at (x ∷ xs) zero a e = λ k. some-injective x a e k ∷ xs
drop_at (x ∷ xs) (suc i) a e = drop_at xs i a e ∙ (λ k. a ∷ step (sym (let c : suc i + 1 ≡ suc (i + 1) = omega arith in c)) k)
  where
    step : {m n : ℕ} → m ≡ n → drop m (x ∷ xs) ≡ drop n (x ∷ xs)
    step q = ap (λ (n : ℕ). drop n (x ∷ xs)) q

pub of_append : (h : HeapId) (xs ys : List HalfValue) → AreOf h (xs ++ ys) → AreOf h xs × AreOf h ys
of_append h [] ys o = (tt, o)
of_append h (x ∷ xs) ys o = let r = of_append h xs ys o.1 in ((o.0, r.0), r.1)

pub of_parts : (h : HeapId) (k : ℕ) (xs : List HalfValue) → AreOf h xs → AreOf h (take k xs) × AreOf h (drop k xs)
of_parts h zero xs o = (tt, o)
of_parts h (suc k) [] o = (tt, tt)
of_parts h (suc k) (x ∷ xs) o = let r = of_parts h k xs o.1 in ((o.0, r.0), r.1)

pub same_length : (xs ys : List HalfValue) → SameSlots xs ys → length xs ≡ length ys
same_length [] [] s = refl
same_length [] (y ∷ ys) s = absurd s
same_length (x ∷ xs) [] s = absurd s
same_length (x ∷ xs) (y ∷ ys) s = let r = same_length xs ys s.1 in omega arith

pub same_rest : (xs zs ys : List HalfValue) → SameSlots (xs ++ zs) ys → SameSlots zs (drop (length xs) ys)
same_rest [] zs ys s = s
same_rest (x ∷ xs) zs [] s = absurd s
same_rest (x ∷ xs) zs (y ∷ ys) s = same_rest xs zs ys s.1

-- the bytes of a part, in the segment where it begins and behind it
module _ (xs : List HalfValue) (i : ℕ) (a : HalfValue) (from most : ℕ) (at : get_elem? xs i ≡ some a) where
  pub part_at : from < length a.bytes → part_of (drop i xs) from most ≡ take most (drop from a.bytes)
  part_at h = ap (λ (l : List HalfValue). part_of l from most) (drop_at xs i a at) ∙ ap (λ (t : Bool). cond t (take most (drop from a.bytes)) (part_of (drop (i + 1) xs) (from - length a.bytes) most)) (lt-ltb from (length a.bytes) h)

  pub part_past : length a.bytes ≤ from → part_of (drop i xs) from most ≡ part_of (drop (i + 1) xs) (from - length a.bytes) most
  part_past h = ap (λ (l : List HalfValue). part_of l from most) (drop_at xs i a at) ∙ ap (λ (t : Bool). cond t (take most (drop from a.bytes)) (part_of (drop (i + 1) xs) (from - length a.bytes) most)) (le-ltb from (length a.bytes) h)

pub take_same : (xs : List ℕ) (m n : ℕ) → length xs ≤ m → length xs ≤ n → take m xs ≡ take n xs
take_same xs m n h k = take_all m xs h ∙ sym (take_all n xs k)

no_front : {A : Type 0} (b : A) (ys : List A) → [] ≡ b ∷ ys → ⊥
no_front b ys e = let n = ap length e in omega arith

pub get_drop : {A : Type 0} (xs : List A) (i : ℕ) (b : A) (ys : List A) → drop i xs ≡ b ∷ ys → get_elem? xs i ≡ some b
get_drop [] zero b ys e = absurd (no_front b ys e)
get_drop [] (suc i) b ys e = absurd (no_front b ys e)
get_drop (x ∷ xs) zero b ys e = ap (λ l. get_elem? l 0) e
get_drop (x ∷ xs) (suc i) b ys e = get_drop xs i b ys e

abbrev tail : {A : Type 0} → List A → List A
tail [] = []
tail (x ∷ xs) = xs

pub set_split : {A : Type 0} (xs : List A) (i : ℕ) (b : A) (ys : List A) (y : A) → drop i xs ≡ b ∷ ys → take i xs ++ y ∷ ys ≡ set xs i y
set_split [] zero b ys y e = absurd (no_front b ys e)
set_split [] (suc i) b ys y e = absurd (no_front b ys e)
set_split (x ∷ xs) zero b ys y e = λ k. y ∷ sym (ap tail e) k
set_split (x ∷ xs) (suc i) b ys y e = λ k. x ∷ set_split xs i b ys y e k

bytes_append : (xs ys : List HalfValue) → byte_count (xs ++ ys) ≡ byte_count xs + byte_count ys
bytes_append [] ys = omega arith
bytes_append (x ∷ xs) ys = let r = bytes_append xs ys in omega arith

held_bytes : (xs ys : List HalfValue) → FirstHeld xs ys → byte_count ys ≡ byte_count xs
held_bytes [] ys f = ap byte_count f
held_bytes (x ∷ xs) ys f = let same : length f.0.bytes ≡ length x.bytes = ap (λ (z : HalfValue). length z.bytes) f.1.2 in ap byte_count f.2 ∙ (let g : length f.0.bytes + byte_count xs ≡ length x.bytes + byte_count xs = omega arith in g)

held_length : (xs ys : List HalfValue) → FirstHeld xs ys → length ys ≡ length xs
held_length [] ys f = ap length f
held_length (x ∷ xs) ys f = ap length f.2

at_front : (front xs : List HalfValue) (a : HalfValue) → get_elem? (front ++ a ∷ xs) (length front) ≡ some a
at_front [] xs a = refl
at_front (y ∷ front) xs a = at_front front xs a

set_front : (front xs : List HalfValue) (a b : HalfValue) → front ++ b ∷ xs ≡ set (front ++ a ∷ xs) (length front) b
set_front [] xs a b = refl
set_front (y ∷ front) xs a b = λ i. y ∷ set_front front xs a b i

first_at : (front xs ys : List HalfValue) → FirstHeld xs ys → 0 < length ys → HeldAt (length front) (front ++ xs) (front ++ ys)
first_at front [] ys f some_left = let none = ap length f in absurd (omega arith)
first_at front (a ∷ xs) ys f some_left = record {
  segment = a;
  after = f.0;
  there = at_front front xs a;
  found = f.1;
  others = (λ i. front ++ f.2 i) ∙ set_front front xs a f.0;
}

pub parts : (k : ℕ) (xs : List HalfValue) → take k xs ++ drop k xs ≡ xs
parts zero xs = refl
parts (suc k) [] = refl
parts (suc k) (x ∷ xs) = λ i. x ∷ parts k xs i

append_again : (xs ys zs : List HalfValue) → (xs ++ ys) ++ zs ≡ xs ++ (ys ++ zs)
append_again [] ys zs = refl
append_again (x ∷ xs) ys zs = λ i. x ∷ append_again xs ys zs i

-- one segment stands apart, and another one behind it, or before it, is to stand apart
module _ (front back : List HalfValue) (here next : HalfValue) (rest : List HalfValue) (k : ℕ) where
  pub turned_right : drop k back ≡ next ∷ rest → (front ++ here ∷ take k back) ++ next ∷ rest ≡ front ++ here ∷ back
  turned_right e = append_again front (here ∷ take k back) (next ∷ rest) ∙ (λ i. front ++ here ∷ (take k back ++ sym e i)) ∙ (λ i. front ++ here ∷ parts k back i)

  pub turned_left : drop k front ≡ next ∷ rest → take k front ++ next ∷ (rest ++ here ∷ back) ≡ front ++ here ∷ back
  turned_left e = sym (append_again (take k front) (next ∷ rest) (here ∷ back)) ∙ (λ i. (take k front ++ sym e i) ++ here ∷ back) ∙ (λ i. parts k front i ++ here ∷ back)

take_past : (back xs : List HalfValue) (k : ℕ) → take (length back + k) (back ++ xs) ≡ back ++ take k xs
take_past [] xs k = ap (λ (n : ℕ). take n xs) (let e : 0 + k ≡ k = omega arith in e)
take_past (b ∷ bs) xs k = ap (λ (n : ℕ). take n (b ∷ bs ++ xs)) (let e : suc (length bs) + k ≡ suc (length bs + k) = omega arith in e) ∙ (λ i. b ∷ take_past bs xs k i)

drop_past : (back xs : List HalfValue) (k : ℕ) → drop (length back + k) (back ++ xs) ≡ drop k xs
drop_past [] xs k = ap (λ (n : ℕ). drop n xs) (let e : 0 + k ≡ k = omega arith in e)
drop_past (b ∷ bs) xs k = ap (λ (n : ℕ). drop n (b ∷ bs ++ xs)) (let e : suc (length bs) + k ≡ suc (length bs + k) = omega arith in e) ∙ drop_past bs xs k

-- what a reclaim leaves
module _ (back more left rest : List HalfValue) (took : more ≡ take (length more) rest) (leaves : FirstHeld (drop (length more) rest) left) where
  pub back_length : length more + length left ≡ length rest
  back_length = let p = ap length (parts (length more) rest) in let a = length-append (take (length more) rest) (drop (length more) rest) in let t = ap length took in let h = held_length (drop (length more) rest) left leaves in omega arith

  pub back_bytes : byte_count ((back ++ more) ++ left) ≡ byte_count (back ++ rest)
  back_bytes = let a = bytes_append (back ++ more) left in let b = bytes_append back more in let c = bytes_append back rest in let p = ap byte_count (parts (length more) rest) in let d = bytes_append (take (length more) rest) (drop (length more) rest) in
      let t = ap byte_count took in let h = held_bytes (drop (length more) rest) left leaves in omega arith

  pub back_held : 0 < length left → HeldAt (length (back ++ more)) (back ++ rest) ((back ++ more) ++ left)
  back_held some_left = subst (λ (xs : List HalfValue). HeldAt (length (back ++ more)) xs ((back ++ more) ++ left)) whole (first_at (back ++ more) (drop (length more) rest) left leaves some_left)
    where
      whole : (back ++ more) ++ drop (length more) rest ≡ back ++ rest
      whole = append_again back more (drop (length more) rest) ∙ (λ i. back ++ ((λ j. took j ++ drop (length more) rest) ∙ parts (length more) rest) i)

  pub back_all : left ≡ [] → back ++ more ≡ back ++ rest
  back_all none = let l = ap length none in let n = back_length in let long : length rest ≤ length more = omega arith in λ i. back ++ (took ∙ take_all (length more) rest long) i

pub append_of : (h : HeapId) (xs ys : List HalfValue) → AreOf h xs → AreOf h ys → AreOf h (xs ++ ys)
append_of h [] ys o p = p
append_of h (x ∷ xs) ys o p = (o.0, append_of h xs ys o.1 p)

pub written_of : (h : HeapId) (i : ℕ) (xs : List HalfValue) (bytes : List ℕ) → AreOf h xs → AreOf h (written_at i xs bytes)
written_of h i [] bytes o = tt
written_of h zero (x ∷ xs) bytes o = o
written_of h (suc i) (x ∷ xs) bytes o = (o.0, written_of h i xs bytes o.1)

pub at_place : (xs : List HalfValue) (i : ℕ) → i < length xs → (a : HalfValue) × (get_elem? xs i ≡ some a)
at_place [] i low = absurd (omega arith)
at_place (x ∷ xs) zero low = (x, refl)
at_place (x ∷ xs) (suc i) low = at_place xs i (omega arith)

pub set_of : (h : HeapId) (i : ℕ) (xs : List HalfValue) (a b : HalfValue) → get_elem? xs i ≡ some a → b.heap ≡ a.heap → AreOf h xs → AreOf h (set xs i b)
set_of h i [] a b at same o = tt
set_of h zero (x ∷ xs) a b at same o = (same ∙ (ap (λ (z : HalfValue). z.heap) (sym (some-injective x a at)) ∙ o.0), o.1)
set_of h (suc i) (x ∷ xs) a b at same o = (o.0, set_of h i xs a b at same o.1)

pub held_of : (h : HeapId) (k : ℕ) (xs ys : List HalfValue) → HeldAt k xs ys → AreOf h xs → AreOf h ys
held_of h k xs ys held o = subst (AreOf h) (sym held.others) (set_of h k xs held.segment held.after held.there (ap (λ (z : HalfValue). z.heap) held.found.2) o)
