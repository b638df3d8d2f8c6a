-- The bytes of an array, part by part.
use Rattle.std.proofs.Common.{◌≡◌, ℕ, zero, suc, ◌+◌, ◌-◌, ◌<◌, ◌≤◌, List, [], ◌∷◌, ◌++◌, length, take, drop, Bool, true, false, cond, sym, refl, ap, ◌∙◌, arith, length-append, length-drop, take_all, append_assoc}
use Rattle.std.specs.Prelude.{ltb, Option, Some, None, IfSome, Result, Ok, Err, OnOk}
use Rattle.std.proofs.lemmas.Bool.{ltb-true, ltb-false}
use Rattle.demi_heap.specs.Seen.{HalfValue}
use Rattle.demi_sga.specs.Arrays.{byte_count, part_of}
use Rattle.demi_logq.specs.Folding.{bytes_of}

pub count_is : (xs : List HalfValue) → length (bytes_of xs) ≡ byte_count xs
count_is [] = refl
count_is (x ∷ xs) = let r = count_is xs in let l = length-append x.bytes (bytes_of xs) in omega arith

-- the front of one list and of another behind it
take_front : (n : ℕ) (a b : List ℕ) → n ≤ length a → take n (a ++ b) ≡ take n a
take_front zero a b le = refl
take_front (suc n) [] b le = absurd (omega arith)
take_front (suc n) (x ∷ a) b le = λ i. x ∷ take_front n a b (omega arith) i

take_past : (n : ℕ) (a b : List ℕ) → take (length a + n) (a ++ b) ≡ a ++ take n b
take_past n [] b = ap (λ (m : ℕ). take m b) (let e : 0 + n ≡ n = omega arith in e)
take_past n (x ∷ a) b = ap (λ (m : ℕ). take m (x ∷ (a ++ b))) (let e : suc (length a) + n ≡ suc (length a + n) = omega arith in e) ∙ (λ i. x ∷ take_past n a b i)

-- a front, and what follows it
take_on : (n m : ℕ) (a : List ℕ) → take n a ++ take m (drop n a) ≡ take (n + m) a
take_on zero m a = ap (λ (k : ℕ). take k a) (let e : m ≡ 0 + m = omega arith in e)
take_on (suc n) m [] = take_all m [] (omega arith) ∙ sym (take_all (suc n + m) [] (omega arith))
take_on (suc n) m (x ∷ a) = (λ i. x ∷ take_on n m a i) ∙ ap (λ (k : ℕ). take k (x ∷ a)) (let e : suc (n + m) ≡ suc n + m = omega arith in e)

length_part : (m : ℕ) (a : List ℕ) → length a ≤ m → take m a ≡ take (length a) a
length_part m a le = take_all m a le ∙ sym (take_all (length a) a (omega arith))

-- one of the part that begins there, behind what was staged, where a part takes all of its segment
pub record Next (xs : List HalfValue) (from : ℕ) (part : List ℕ) : Type 0 where
  pub more : take from (bytes_of xs) ++ part ≡ take (from + length part) (bytes_of xs)
  pub some : 0 < length part
  pub within : from + length part ≤ byte_count xs

part_here : (x : HalfValue) (xs : List HalfValue) (from most : ℕ) → from < length x.bytes → byte_count (x ∷ xs) ≤ most → Next (x ∷ xs) from (take most (drop from x.bytes))
part_here x xs from most near le =
    let d = length-drop {A = ℕ} from x.bytes in
    let all : take most (drop from x.bytes) ≡ drop from x.bytes = take_all most (drop from x.bytes) (omega arith) in
    let long : length (take most (drop from x.bytes)) ≡ length x.bytes - from = ap length all ∙ d in
    record {
      more = ap (λ (l : List ℕ). l ++ take most (drop from x.bytes)) (take_front from x.bytes (bytes_of xs) (omega arith))
          ∙ take_on from most x.bytes
          ∙ take_all (from + most) x.bytes (omega arith)
          ∙ sym (take_all (length x.bytes) x.bytes (omega arith))
          ∙ sym (take_front (length x.bytes) x.bytes (bytes_of xs) (omega arith))
          ∙ ap (λ (k : ℕ). take k (x.bytes ++ bytes_of xs)) (let s : length x.bytes ≡ from + length (take most (drop from x.bytes)) = omega arith in s);
      some = omega arith;
      within = omega arith;
    }

part_there : (x : HalfValue) (xs : List HalfValue) (from : ℕ) (part : List ℕ) → length x.bytes ≤ from → Next xs (from - length x.bytes) part → Next (x ∷ xs) from part
part_there x xs from part far r =
    let r₁ = r.some in let r₂ = r.within in
    let split : from ≡ length x.bytes + (from - length x.bytes) = omega arith in
    record {
      more = ap (λ (k : ℕ). take k (x.bytes ++ bytes_of xs) ++ part) split
          ∙ ap (λ (l : List ℕ). l ++ part) (take_past (from - length x.bytes) x.bytes (bytes_of xs))
          ∙ append_assoc x.bytes (take (from - length x.bytes) (bytes_of xs)) part
          ∙ ap (λ (l : List ℕ). x.bytes ++ l) r.more
          ∙ sym (take_past (from - length x.bytes + length part) x.bytes (bytes_of xs))
          ∙ ap (λ (k : ℕ). take k (x.bytes ++ bytes_of xs)) (let s : length x.bytes + (from - length x.bytes + length part) ≡ from + length part = omega arith in s);
      some = omega arith;
      within = omega arith;
    }

by_test : (P : List ℕ → Type 0) (b : Bool) (x y : List ℕ) → (b ≡ true → P x) → (b ≡ false → P y) → P (cond b x y)
by_test P true x y f g = f refl
by_test P false x y f g = g refl

pub part_next : (xs : List HalfValue) (from most : ℕ) → from < byte_count xs → byte_count xs ≤ most → Next xs from (part_of xs from most)
part_next [] from most less le = absurd (omega arith)
part_next (x ∷ xs) from most less le =
    by_test (Next (x ∷ xs) from) (ltb from (length x.bytes)) (take most (drop from x.bytes)) (part_of xs (from - length x.bytes) most)
    (λ e. part_here x xs from most (ltb-true from (length x.bytes) e) le)
    (λ e. let far = ltb-false from (length x.bytes) e in part_there x xs from (part_of xs (from - length x.bytes) most) far (part_next xs (from - length x.bytes) most (omega arith) (omega arith)))

-- two parts of a payload are all of it
pub both_parts : (told : Option (List ℕ)) (x y p : List ℕ) (k m n : ℕ) → k ≡ m → m + n ≡ length p → IfSome told (λ (_ : List ℕ). x ≡ take k (drop 0 p)) → IfSome told (λ (_ : List ℕ). y ≡ take n (drop m p)) → IfSome told (λ (_ : List ℕ). x ++ y ≡ p)
both_parts None x y p k m n same long ex ey = tt
both_parts (Some b) x y p k m n same long ex ey = (λ i. ex i ++ ey i) ∙ ap (λ (j : ℕ). take j p ++ take n (drop m p)) same ∙ take_on m n p ∙ take_all (m + n) p (omega arith)

pub on_ok : {T E A B : Type 0} (r : Result T E) → (A → B) → OnOk r A → OnOk r B
on_ok (Ok x) f a = f a
on_ok (Err e) f a = tt
