-- What arrays say, and how many segments they have, one operation further.
use Rattle.std.proofs.Common.{◌≡◌, ℕ, suc, ◌+◌, List, [], ◌∷◌, ◌++◌, length, cond, refl, sym, ap, ◌∙◌, arith, subst}
use Rattle.std.specs.Prelude.{◌==◌, map, Option, Some, None}
use Rattle.demi_port_core.specs.declared.place.Place.{Place}
use Rattle.demi_heap.specs.Seen.{HeapId, HalfValue, PassValue}
use Rattle.demi_sga.specs.Arrays.{AreOf, returned_by}
use Rattle.demi_memq.specs.declared.op.MemOp.{MemOp}
use Rattle.demi_memq.specs.declared.op.MemOp.TheVariants.{Queue, Push, Pop, Close, Stop}
use Rattle.demi_memq.specs.declared.out.MemOut.{MemOut}
use Rattle.demi_memq.specs.Counting.{beside}
use Rattle.demi_memq.specs.Rooms.{rest}
use Rattle.demi_memq.specs.Said.{IsFrom, IsProper, array_said, op_said}
use Rattle.demi_memq.specs.Segments.{brought, given, held, op_segments, out_segments}
use Rattle.demi_memq.specs.Serving.{Accounts, GivenOf, ItemsOf, items_said, ends_as}
use Rattle.demi_memq.proofs.Lists.{by_test}

pub said_beside : (q : ℕ) (l : List (ℕ × List HalfValue)) → beside q (items_said l) ≡ map array_said (beside q l)
said_beside q [] = refl
said_beside q (e ∷ es) =
    by_test (λ b. cond b (array_said e.1 ∷ beside q (items_said es)) (beside q (items_said es)) ≡ map array_said (cond b (e.1 ∷ beside q es) (beside q es))) (e.0 == q) (λ _. ap (λ l. array_said e.1 ∷ l) (said_beside q es)) (λ _. said_beside q es)

pub said_first : (q : ℕ) (x : List HalfValue) (r : List (List HalfValue)) (l : List (ℕ × List HalfValue)) → beside q l ≡ x ∷ r → beside q (items_said l) ≡ array_said x ∷ map array_said r
said_first q x r l e = said_beside q l ∙ ap (map array_said) e

pub said_none : (q : ℕ) (l : List (ℕ × List HalfValue)) → beside q l ≡ [] → beside q (items_said l) ≡ []
said_none q l e = said_beside q l ∙ ap (map array_said) e

pub said_rest : (q : ℕ) (l : List (ℕ × List HalfValue)) → items_said (rest q l) ≡ rest q (items_said l)
said_rest q [] = refl
said_rest q (e ∷ es) =
    by_test (λ b. items_said (cond b es (e ∷ rest q es)) ≡ cond b (items_said es) ((e.0, array_said e.1) ∷ rest q (items_said es))) (e.0 == q) (λ _. refl) (λ _. ap (λ l. (e.0, array_said e.1) ∷ l) (said_rest q es))

pub said_more : (q : ℕ) (x : List HalfValue) (l : List (ℕ × List HalfValue)) → items_said (l ++ (q, x) ∷ []) ≡ items_said l ++ (q, array_said x) ∷ []
said_more q x [] = refl
said_more q x (e ∷ es) = ap (λ l. (e.0, array_said e.1) ∷ l) (said_more q x es)

pub said_length : (l : List (ℕ × List HalfValue)) → length (items_said l) ≡ length l
said_length [] = refl
said_length (e ∷ es) = ap suc (said_length es)

pub unsaid : (h : HeapId) (xs : List HalfValue) → AreOf h (array_said xs) → AreOf h xs
unsaid h [] p = tt
unsaid h (x ∷ xs) p = (p.0, unsaid h xs p.1)

pub unsaid_op : (h : HeapId) (op : MemOp) → IsProper h (op_said op) → IsProper h op
unsaid_op h Queue p = tt
unsaid_op h (Push q sga) p = unsaid h sga p
unsaid_op h (Pop q) p = tt
unsaid_op h (Close q) p = tt
unsaid_op h Stop p = tt

as_long : (xs : List HalfValue) → length (array_said xs) ≡ length xs
as_long [] = refl
as_long (x ∷ xs) = ap suc (as_long xs)

pub said_segments : (op : MemOp) → op_segments (op_said op) ≡ op_segments op
said_segments Queue = refl
said_segments (Push q sga) = as_long sga
said_segments (Pop q) = refl
said_segments (Close q) = refl
said_segments Stop = refl

pub brought_more : (l : List MemOp) (op : MemOp) → brought (l ++ op ∷ []) ≡ brought l + op_segments op
brought_more [] op = omega arith
brought_more (o ∷ os) op = let r = brought_more os op in omega arith

pub given_append : (l r : List (ℕ × MemOut)) → given (l ++ r) ≡ given l + given r
given_append [] r = omega arith
given_append (o ∷ os) r = let h = given_append os r in omega arith

pub given_more : (l : List (ℕ × MemOut)) (p : ℕ) (o : MemOut) → given (l ++ (p, o) ∷ []) ≡ given l + out_segments o
given_more l p o = let h = given_append l ((p, o) ∷ []) in omega arith

pub held_more : (q : ℕ) (x : List HalfValue) (l : List (ℕ × List HalfValue)) → held (l ++ (q, x) ∷ []) ≡ held l + length x
held_more q x [] = omega arith
held_more q x (e ∷ es) = let r = held_more q x es in omega arith

pub held_rest : (q : ℕ) (x : List HalfValue) (r : List (List HalfValue)) (l : List (ℕ × List HalfValue)) → beside q l ≡ x ∷ r → held (rest q l) + length x ≡ held l
held_rest q x r [] e = absurd (cc)
held_rest q x r (d ∷ ds) e =
    by_test (λ b. cond b (d.1 ∷ beside q ds) (beside q ds) ≡ x ∷ r → held (cond b ds (d ∷ rest q ds)) + length x ≡ held (d ∷ ds)) (d.0 == q)
    (λ s e'. let same : d.1 ≡ x = cc in let n = ap length same in omega arith) (λ s e'. let h = held_rest q x r ds e' in omega arith) e

module _ (h : HeapId) where
  pub items_rest : (q : ℕ) (l : List (ℕ × List HalfValue)) → ItemsOf h l → ItemsOf h (rest q l)
  items_rest q [] i = tt
  items_rest q (e ∷ es) i = by_test (λ b. ItemsOf h (cond b es (e ∷ rest q es))) (e.0 == q) (λ _. i.1) (λ _. (i.0, items_rest q es i.1))

  pub items_more : (q : ℕ) (x : List HalfValue) (l : List (ℕ × List HalfValue)) → ItemsOf h l → AreOf h x → ItemsOf h (l ++ (q, x) ∷ [])
  items_more q x [] i is = (is, tt)
  items_more q x (e ∷ es) i is = (i.0, items_more q x es i.1 is)

-- the pass has ended n halves
pub accounts : (p p' : PassValue) (n w w' : ℕ) (added : List (ℕ × MemOut)) (came : ℕ) → p' ≡ returned_by p n → n + w' + given added ≡ w + came → Accounts p w p' w' added came
accounts p p' n w w' added came e sum = let r = ap (λ (v : PassValue). v.returned) e in (e ∙ ap (λ (k : ℕ). record p { returned = k }) (sym r), omega arith)

-- it has ended none
pub still_accounts : (p : PassValue) (w w' : ℕ) (added : List (ℕ × MemOut)) (came : ℕ) → w' + given added ≡ w + came → Accounts p w p w' added came
still_accounts p w w' added came sum = (refl, omega arith)

pub unsaid_none : (l : List (ℕ × List HalfValue)) → items_said l ≡ [] → l ≡ []
unsaid_none [] e = refl
unsaid_none (x ∷ xs) e = absurd (cc)

pub given_of_more : (h : HeapId) (l : List (ℕ × MemOut)) (p : ℕ) (o : MemOut) → GivenOf h l → IsFrom h o → GivenOf h (l ++ (p, o) ∷ [])
given_of_more h [] p o all is = (is, tt)
given_of_more h (x ∷ xs) p o all is = (all.0, given_of_more h xs p o all.1 is)

pub item_of : (h : HeapId) (q : ℕ) (x : List HalfValue) (r : List (List HalfValue)) (l : List (ℕ × List HalfValue)) → ItemsOf h l → beside q l ≡ x ∷ r → AreOf h x
item_of h q x r [] i e = absurd (cc)
item_of h q x r (d ∷ ds) i e =
    by_test (λ b. cond b (d.1 ∷ beside q ds) (beside q ds) ≡ x ∷ r → AreOf h x) (d.0 == q) (λ s e'. let same : d.1 ≡ x = cc in subst (AreOf h) same i.0) (λ s e'. item_of h q x r ds i.1 e') e

pub ends_give : (stop : Option Place) → out_segments (ends_as stop) ≡ 0
ends_give None = refl
ends_give (Some p) = refl

pub ends_from : (h : HeapId) (stop : Option Place) → IsFrom h (ends_as stop)
ends_from h None = tt
ends_from h (Some p) = tt
