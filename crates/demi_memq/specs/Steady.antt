-- A result that is there never changes.
use mathlib.Core.Logic.{◌↔◌}
use Rattle.std.specs.Prelude.{◌≡◌, ℕ, zero, suc, ◌+◌, List, [], ◌∷◌, ◌++◌, length, take, Option, Some, None, Bool, true, false, ◌==◌, ◌&&◌, ◌||◌, not, ltb, cond, slice_get, refl}
use Rattle.std.proofs.Common.{sym, ap, ◌∙◌, arith, subst}
use borrow.Author.Tests.{eqb-true}
use Rattle.demi_heap.specs.Seen.{HalfValue}
use Rattle.demi_memq.specs.declared.op.MemOp.{MemOp}
use Rattle.demi_memq.specs.declared.op.MemOp.TheVariants.{Queue, Push, Pop, Close, Stop}
use Rattle.demi_memq.specs.declared.out.MemOut.{MemOut}
use Rattle.demi_memq.specs.Counting.{beside, has, Counts, none_yet, has_room, accept, counted, counts_from, counts, item_or, gets, answer_unless, answer_of, result_at}

-- what is at a place stays there
pub got_append : {A : Type 0} (h more : List A) (p : ℕ) (d : A) → slice_get h p ≡ Some d → slice_get (h ++ more) p ≡ Some d
got_append [] more p d e = absurd (cc)
got_append (x ∷ xs) more zero d e = e
got_append (x ∷ xs) more (suc p) d e = got_append xs more p d e

pub take_got : {A : Type 0} (h more : List A) (p : ℕ) (d : A) → slice_get h p ≡ Some d → take p (h ++ more) ≡ take p h
take_got [] more p d e = absurd (cc)
take_got (x ∷ xs) more zero d e = refl
take_got (x ∷ xs) more (suc p) d e = λ i. x ∷ take_got xs more p d e i

pub beside_append : {X : Type 0} (q : ℕ) (a b : List (ℕ × X)) → beside q (a ++ b) ≡ beside q a ++ beside q b
beside_append q [] b = refl
beside_append {X = X} q (e ∷ es) b = push (e.0 == q) (beside_append q es b)
  where
    push : (c : Bool) → beside q (es ++ b) ≡ beside q es ++ beside q b → cond c (e.1 ∷ beside q (es ++ b)) (beside q (es ++ b)) ≡ cond c (e.1 ∷ beside q es) (beside q es) ++ beside q b
    push true h = λ i. e.1 ∷ h i
    push false h = h

pub append_none : {X : Type 0} (a : List X) → a ++ [] ≡ a
append_none [] = refl
append_none (x ∷ xs) = λ i. x ∷ append_none xs i

pub true_or : (a b : Bool) → b ≡ true → (a || b) ≡ true
true_or true b e = refl
true_or false b e = e

pub and_left : (a b : Bool) → (a && b) ≡ true → a ≡ true
and_left true b e = refl
and_left false b e = e

pub and_right : (a b : Bool) → (a && b) ≡ true → b ≡ true
and_right true b e = e
and_right false b e = absurd (cc)

pub not_true : (a : Bool) → not a ≡ true → a ≡ false
not_true true e = absurd (cc)
not_true false e = refl

pub cond_stays : {A : Type 0} (b : Bool) (x x' y z : A) → cond b x y ≡ z → (x ≡ z → x' ≡ z) → cond b x' y ≡ z
cond_stays true x x' y z e f = f e
cond_stays false x x' y z e f = e

pub from_append : (m p n : ℕ) (t : Counts) (h more : List MemOp) → p + length h ≡ n → counts_from m p t (h ++ more) ≡ counts_from m n (counts_from m p t h) more
from_append m p n t [] more e = let same : p ≡ n = omega arith in ap (λ k. counts_from m k t more) same
from_append m p n t (op ∷ ops) more e = from_append m (p + 1) n (counted m p op t t.stop) ops more (omega arith)

-- either counts
pub on_cond : (P : Counts → Type 0) (b : Bool) (x y : Counts) → (b ≡ true → P x) → P y → P (cond b x y)
on_cond P true x y f g = f refl
on_cond P false x y f g = g

stays : (a a' : Option (List HalfValue)) (c c' : Bool) (s' : Option ℕ) (o : MemOut) → ((y : List HalfValue) → a ≡ Some y → a' ≡ Some y) → (c ≡ true → (c' ≡ true) × (a ≡ None → a' ≡ None)) → item_or a c None ≡ Some o → item_or a' c' s' ≡ Some o
stays (Some y) a' c c' s' o f g h = rw (f y refl) h
stays None a' true c' s' o f g h = rw ((g refl).1 refl, (g refl).0) h
stays None a' false c' s' o f g h = absurd (cc)

-- of a queue that is closed no push comes
same_pushes : (q k : ℕ) (x : List HalfValue) (t : Counts) → has k t.shut ≡ false → has q t.shut ≡ true → beside q (t.pushes ++ (k, x) ∷ []) ≡ beside q t.pushes
same_pushes q k x t calm closed = beside_append q t.pushes ((k, x) ∷ []) ∙ last (k == q) refl
  where
    last : (b : Bool) → (k == q) ≡ b → beside q t.pushes ++ cond b (x ∷ []) [] ≡ beside q t.pushes
    last true e = let same : k ≡ q = eqb-true k q e in let calm' : has q t.shut ≡ false = subst (λ n. has n t.shut ≡ false) same calm in absurd (cc)
    last false e = append_none (beside q t.pushes)

got_push : (q k n : ℕ) (x y : List HalfValue) (t : Counts) → slice_get (beside q t.pushes) n ≡ Some y → slice_get (beside q (t.pushes ++ (k, x) ∷ [])) n ≡ Some y
got_push q k n x y t e = rw (beside_append q t.pushes ((k, x) ∷ [])) (got_append (beside q t.pushes) _ n y e)

gets_accept : (m p q k : ℕ) (op : MemOp) (t : Counts) (o : MemOut) → t.stop ≡ None → gets q k t ≡ Some o → gets q k (accept m p op t) ≡ Some o
gets_accept m p q k Queue t o calm is = on_cond (λ c. gets q k c ≡ Some o) (ltb t.made 256) (record t { made = t.made + 1 }) t (λ _. is) is
gets_accept m p q k (Push j x) t o calm is =
    on_cond (λ c. gets q k c ≡ Some o) (ltb j t.made && (not (has j t.shut) && has_room m j t)) (record t { pushes = t.pushes ++ (j, x) ∷ [] }) t (λ b.
    let open_ : has j t.shut ≡ false = not_true (has j t.shut) (and_left _ _ (and_right (ltb j t.made) _ b)) in
    let is' : item_or (slice_get (beside q t.pushes) k) (has q t.shut) None ≡ Some o = subst (λ s. item_or (slice_get (beside q t.pushes) k) (has q t.shut) s ≡ Some o) calm is in
    stays (slice_get (beside q t.pushes) k) (slice_get (beside q (t.pushes ++ (j, x) ∷ [])) k) (has q t.shut) (has q t.shut) t.stop o (λ y e. got_push q j k x y t e) (λ closed. (closed, λ none. ap (λ l. slice_get l k) (same_pushes q j x t open_ closed) ∙ none)) is') is
gets_accept m p q k (Pop j) t o calm is = on_cond (λ c. gets q k c ≡ Some o) (ltb j t.made) (record t { pops = t.pops ++ (j, p) ∷ [] }) t (λ _. is) is
gets_accept m p q k (Close j) t o calm is =
    on_cond (λ c. gets q k c ≡ Some o) (ltb j t.made && not (has j t.shut)) (record t { shut = j ∷ t.shut }) t (λ b.
    let is' : item_or (slice_get (beside q t.pushes) k) (has q t.shut) None ≡ Some o = subst (λ s. item_or (slice_get (beside q t.pushes) k) (has q t.shut) s ≡ Some o) calm is in
    stays (slice_get (beside q t.pushes) k) (slice_get (beside q t.pushes) k) (has q t.shut) (has q (j ∷ t.shut)) t.stop o (λ y e. e) (λ closed. (true_or (j == q) (has q t.shut) closed, λ none. none)) is') is
gets_accept m p q k Stop t o calm is =
    let is' : item_or (slice_get (beside q t.pushes) k) (has q t.shut) None ≡ Some o = subst (λ s. item_or (slice_get (beside q t.pushes) k) (has q t.shut) s ≡ Some o) calm is in
    stays (slice_get (beside q t.pushes) k) (slice_get (beside q t.pushes) k) (has q t.shut) (has q t.shut) _ o (λ y e. e) (λ closed. (closed, λ none. none)) is'

gets_counted : (m p q k : ℕ) (op : MemOp) (t : Counts) (o : MemOut) (s : Option ℕ) → t.stop ≡ s → gets q k t ≡ Some o → gets q k (counted m p op t s) ≡ Some o
gets_counted m p q k op t o None e is = gets_accept m p q k op t o e is
gets_counted m p q k op t o (Some s) e is = is

pub gets_stays : (m p q k : ℕ) (more : List MemOp) (t : Counts) (o : MemOut) → gets q k t ≡ Some o → gets q k (counts_from m p t more) ≡ Some o
gets_stays m p q k [] t o is = is
gets_stays m p q k (op ∷ ops) t o is = gets_stays m (p + 1) q k ops (counted m p op t t.stop) o (gets_counted m p q k op t o t.stop refl is)

answer_stays : (m : ℕ) (op : MemOp) (s : Option ℕ) (t a b : Counts) (o : MemOut) → ((q k : ℕ) → gets q k a ≡ Some o → gets q k b ≡ Some o) → answer_unless s m op t a ≡ Some o → answer_unless s m op t b ≡ Some o
answer_stays m op (Some s) t a b o f is = is
answer_stays m Queue None t a b o f is = is
answer_stays m (Push q x) None t a b o f is = is
answer_stays m (Pop q) None t a b o f is = cond_stays (ltb q t.made) _ _ _ (Some o) is (f q _)
answer_stays m (Close q) None t a b o f is = is
answer_stays m Stop None t a b o f is = is

kept : (m : ℕ) (h more : List MemOp) (p : ℕ) (o : MemOut) (g : Option MemOp) → slice_get h p ≡ g → answer_of g m (counts m (take p h)) (counts m h) ≡ Some o → result_at m (h ++ more) p ≡ Some o
kept m h more p o None e is = absurd (cc)
kept m h more p o (Some op) e is =
    rw (got_append h more p op e, take_got h more p op e, from_append m 0 (length h) none_yet h more (omega arith))
    (answer_stays m op (counts m (take p h)).stop (counts m (take p h)) (counts m h) (counts_from m (length h) (counts m h) more) o (λ q k. gets_stays m (length h) q k more (counts m h) o) is)

pub result_stays : (m : ℕ) (h more : List MemOp) (p : ℕ) (o : MemOut) → result_at m h p ≡ Some o → result_at m (h ++ more) p ≡ Some o
result_stays m h more p o is = kept m h more p o (slice_get h p) refl is

pub result_steady : (m : ℕ) (h more : List MemOp) (p : ℕ) (o x : MemOut) → result_at m h p ≡ Some o → (result_at m (h ++ more) p ≡ Some x ↔ result_at m h p ≡ Some x)
result_steady m h more p o x is = let stays' = result_stays m h more p o is in ((λ e. is ∙ (sym stays' ∙ e)), λ e. stays' ∙ (sym is ∙ e))

-- so does what is admitted for it, of whatever else is asked of an outcome alone
pub admits_steady : (A B : Type 0) (m : ℕ) (h more : List MemOp) (p : ℕ) (o x : MemOut) → (result_at m h p ≡ Some o) × A → ((result_at m (h ++ more) p ≡ Some x) × B ↔ (result_at m h p ≡ Some x) × B)
admits_steady A B m h more p o x is = let r = result_steady m h more p o x is.0 in ((λ e. (r.0 e.0, e.1)), λ e. (r.1 e.0, e.1))
