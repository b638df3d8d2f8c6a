-- A payload that is read as a record.
use Rattle.std.proofs.Common.{◌≡◌, ℕ, zero, suc, ◌+◌, ◌-◌, ◌<◌, ◌≤◌, min, List, [], ◌∷◌, ◌++◌, length, take, drop, get_or, None, Some, Bool, true, false, ◌||◌, refl, ap, sym, ◌∙◌, arith, cond, length-append, length-take, length-drop, append_assoc, nat_lt}
use Rattle.std.specs.Prelude.{slice_index, ◌==◌}
use Rattle.std.specs.Int.{w16, w32, to_be_bytes, from_be_bytes}
use Rattle.std.proofs.lemmas.List.{take-append-drop, take-take}
use Rattle.std.proofs.lemmas.Bool.Decides.{nat_tests}
use Rattle.demi_spec.specs.Record.{Record, IsRecord, payload, record_of}
use Rattle.demi_store.specs.Openings.{FitsRecord, heard}

-- the bytes of a record before its value
front_is : (l : List ℕ) (k n : ℕ) → 7 ≤ length l → n ≡ 7 + k → take n l ≡ take 2 l ++ (take 4 (drop 2 l) ++ (slice_index l 6 ∷ take k (drop 7 l)))
front_is [] k n long is = absurd (omega arith)
front_is (a ∷ []) k n long is = absurd (omega arith)
front_is (a ∷ b ∷ []) k n long is = absurd (omega arith)
front_is (a ∷ b ∷ c ∷ []) k n long is = absurd (omega arith)
front_is (a ∷ b ∷ c ∷ d ∷ []) k n long is = absurd (omega arith)
front_is (a ∷ b ∷ c ∷ d ∷ e ∷ []) k n long is = absurd (omega arith)
front_is (a ∷ b ∷ c ∷ d ∷ e ∷ f ∷ []) k n long is = absurd (omega arith)
front_is (a ∷ b ∷ c ∷ d ∷ e ∷ f ∷ g ∷ l) k n long is =
    let more : n ≡ suc (suc (suc (suc (suc (suc (suc k)))))) = omega arith in
    ap (λ m. take m (a ∷ b ∷ c ∷ d ∷ e ∷ f ∷ g ∷ l)) more

-- the fields of a front are those of the whole
index_take : (l : List ℕ) (n : ℕ) → 7 ≤ n → slice_index (take n l) 6 ≡ slice_index l 6
index_take l n h = at 6 n l h
  where
    at : (i n : ℕ) (l : List ℕ) → suc i ≤ n → get_or (take n l) i 0 ≡ get_or l i 0
    at i zero l h = absurd (omega arith)
    at i (suc n) [] h = refl
    at zero (suc n) (x ∷ l) h = refl
    at (suc i) (suc n) (x ∷ l) h = at i n l (omega arith)

-- the head of a record's payload spells its fields
pub record Spells (head : List ℕ) (size : ℕ) (p : List ℕ) : Type 0 where
  pub long : length p ≡ size
  pub front : length head ≡ min 262 size
  pub small : slice_index head 6 < 256
  pub link : to_be_bytes w16 (from_be_bytes w16 (take 2 head)) ≡ take 2 head
  pub link_fits : from_be_bytes w16 (take 2 head) < 65536
  pub index : to_be_bytes w32 (from_be_bytes w32 (take 4 (drop 2 head))) ≡ take 4 (drop 2 head)
  pub index_fits : from_be_bytes w32 (take 4 (drop 2 head)) < 4294967296

pub heard_fits : (head : List ℕ) (size : ℕ) (p : List ℕ) → Spells head size p → FitsRecord head size → IsRecord (heard p head)
heard_fits head size p s f =
    let k = slice_index head 6 in
    let f0 = f.0 in let f1 = f.1 in let f2 = f.2 in let f3 = f.3 in
    let small = s.small in let front = s.front in let long = s.long in
    let key : length (take k (drop 7 head)) ≡ k = omega (arith, length-take k (drop 7 head), length-drop 7 head) in
    let value : length (drop (7 + k) p) ≡ size - (7 + k) = omega (arith, length-drop (7 + k) p) in
    record { link = s.link_fits; index = s.index_fits; key = (omega arith, omega arith); value = omega arith }

pub heard_length : (head : List ℕ) (size : ℕ) (p : List ℕ) → Spells head size p → FitsRecord head size → length (payload (heard p head)) ≡ size
heard_length head size p s f =
    let k = slice_index head 6 in
    let f0 = f.0 in let f1 = f.1 in let f2 = f.2 in let f3 = f.3 in
    let small = s.small in let front = s.front in let long = s.long in
    let key : length (take k (drop 7 head)) ≡ k = omega (arith, length-take k (drop 7 head), length-drop 7 head) in
    let value : length (drop (7 + k) p) ≡ size - (7 + k) = omega (arith, length-drop (7 + k) p) in
    omega (arith, length-append (take k (drop 7 head)) (drop (7 + k) p))

-- where the head is the payload's, the record's payload is it
pub heard_payload : (head : List ℕ) (size : ℕ) (p : List ℕ) → Spells head size p → FitsRecord head size → head ≡ take (length head) p → payload (heard p head) ≡ p
heard_payload head size p s f is =
    let k = slice_index head 6 in
    let f0 = f.0 in let f1 = f.1 in let f2 = f.2 in let f3 = f.3 in
    let small = s.small in let front = s.front in let long = s.long in
    let key : length (take k (drop 7 head)) ≡ k = omega (arith, length-take k (drop 7 head), length-drop 7 head) in
    let rest : List ℕ = drop (7 + k) p in
    let n : ℕ = 7 + k in
    let whole : take n head ≡ take n p = ap (take n) is ∙ take-take n (length head) p (omega arith) in
    ap (λ (l : List ℕ). l ++ (to_be_bytes w32 (from_be_bytes w32 (take 4 (drop 2 head))) ++ (length (take k (drop 7 head)) ∷ (take k (drop 7 head) ++ rest)))) s.link
    ∙ ap (λ (l : List ℕ). take 2 head ++ (l ++ (length (take k (drop 7 head)) ∷ (take k (drop 7 head) ++ rest)))) s.index
    ∙ ap (λ m. take 2 head ++ (take 4 (drop 2 head) ++ (m ∷ (take k (drop 7 head) ++ rest)))) key
    ∙ ap (λ (l : List ℕ). take 2 head ++ l) (sym (append_assoc (take 4 (drop 2 head)) (k ∷ take k (drop 7 head)) rest))
    ∙ sym (append_assoc (take 2 head) (take 4 (drop 2 head) ++ (k ∷ take k (drop 7 head))) rest)
    ∙ ap (λ (l : List ℕ). l ++ rest) (sym (front_is head k n (omega arith) refl) ∙ whole)
    ∙ take-append-drop n p

-- what is no record's
pub no_record_of : (p head : List ℕ) (size : ℕ) → length p ≡ size → length head ≡ min 262 size → head ≡ take (length head) p → (FitsRecord head size → ⊥) → record_of p ≡ None
unfolding record_of
no_record_of p head size long front is never =
    tests (nat_lt (length p) 8) (key == 0) (nat_lt (length p) (7 + key)) (nat_lt (65536 + (7 + key)) (length p)) refl refl refl refl _
  where
    key : ℕ
    key = slice_index p 6

    tests : (a b c d : Bool) → nat_lt (length p) 8 ≡ a → (key == 0) ≡ b → nat_lt (length p) (7 + key) ≡ c → nat_lt (65536 + (7 + key)) (length p) ≡ d → (x : Record) → cond (a || b || c || d) None (Some x) ≡ None
    tests true b c d e1 e2 e3 e4 x = refl
    tests false true c d e1 e2 e3 e4 x = refl
    tests false false true d e1 e2 e3 e4 x = refl
    tests false false false true e1 e2 e3 e4 x = refl
    tests false false false false e1 e2 e3 e4 x =
        let l1 : 8 ≤ length p = grind (arith, nat_tests) in
        let l2 : 0 < key = grind (arith, nat_tests) in
        let l3 : 7 + key ≤ length p = grind (arith, nat_tests) in
        let l4 : length p ≤ 65536 + (7 + key) = grind (arith, nat_tests) in
        let same : slice_index head 6 ≡ key = ap (λ (l : List ℕ). slice_index l 6) is ∙ index_take p (length head) (omega arith) in
        absurd (never (omega arith, omega arith, omega arith, omega arith))

pub none_of : (l : List ℕ) → l ≡ [] → record_of l ≡ None
unfolding record_of
none_of l is = ap record_of is
