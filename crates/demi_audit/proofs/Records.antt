-- Where each new record is that of a stored reply, each is one put of one link, and no put has two.
use Rattle.std.proofs.Common.{◌≡◌, ℕ, zero, suc, ◌+◌, ◌-◌, ◌<◌, Bool, false, true, ◌||◌, List, [], ◌∷◌, ◌++◌, drop, Some, refl, arith, ◌∙◌, ap, sym, subst, inl, inr, ◌⊎◌}
use Rattle.std.specs.Prelude.{IsTrue, ◌==◌, slice_get}
use Rattle.std.specs.List.{AllByRecursion, list_any}
use Rattle.std.proofs.lemmas.Bool.Decides.{nat_tests}
use Rattle.demi_spec.specs.Request.{Put, Get, End}
use Rattle.demi_spec.specs.Reply as reply
use Rattle.demi_spec.specs.Reply.{Answer, Reply, Stored, Found, Missing, Bye, Full, spelling}
use Rattle.demi_spec.specs.Record.{Record}
use Rattle.demi_spec.specs.Input.{Asked, Request_of, Refused_end}
use Rattle.demi_served.specs.Talks.{Run, Talk, all_of}
use Rattle.demi_served.specs.Answers.{Answers, AnswersEach}
use Rattle.demi_audit.proofs.Answering.{right_stands}
use Rattle.demi_served.specs.Served.{Pairwise, Placed, stored_as, Recorded, IsAsked, OfTwoRequests}

-- where a stored reply of this version stands
pub record Told (replies : List Reply) (v : ℕ) : Type 0 where
  pub index : ℕ
  pub reply : Reply
  pub here : slice_get replies index ≡ Some reply
  pub value : List ℕ
  pub is : reply.answer ≡ Stored v value

pub record Located (talks : List Talk) (v : ℕ) : Type 0 where
  pub link : ℕ
  pub talk : Talk
  pub here : slice_get talks link ≡ Some talk
  pub told : Told talk.replies v

same_number : (a b : ℕ) → (a == b) ≡ true → a ≡ b
same_number a b h = grind (arith, nat_tests)

stored_is : (v : ℕ) (r : Reply) → stored_as v r ≡ true → (value : List ℕ) × (r.answer ≡ Stored v value)
stored_is v r h = go r.answer refl h
  where
    go : (a : Answer) → r.answer ≡ a → stored_as v (record { worker = r.worker; sequence = r.sequence; answer = a }) ≡ true → (value : List ℕ) × (r.answer ≡ Stored v value)
    go (Stored w value) e h = (value, e ∙ ap (λ n. Stored n value) (same_number w v h))
    go (Found w value) e h = absurd (cc)
    go (Missing w) e h = absurd (cc)
    go (reply.Refused c) e h = absurd (cc)
    go Bye e h = absurd (cc)
    go (Full w) e h = absurd (cc)

split_or : (a b : Bool) → (a || b) ≡ true → (a ≡ true) ⊎ (b ≡ true)
split_or true b h = inl refl
split_or false b h = inr h

any_append : {X : Type 0} (test : X → Bool) (xs ys : List X) → list_any test (xs ++ ys) ≡ true → (list_any test xs ≡ true) ⊎ (list_any test ys ≡ true)
any_append test [] ys h = inr h
any_append test (x ∷ xs) ys h = elim (split_or (test x) (list_any test (xs ++ ys)) h) [
  | inl this ↦ inl (ap (λ (b : Bool). b || list_any test xs) this)
  | inr later ↦ elim (any_append test xs ys later) [
    | inl first ↦ inl (also (test x) (list_any test xs) first)
    | inr second ↦ inr second
  ]
]
  where
    also : (a b : Bool) → b ≡ true → (a || b) ≡ true
    also true b e = refl
    also false b e = e

told_in : (v : ℕ) (replies : List Reply) → list_any (stored_as v) replies ≡ true → Told replies v
told_in v [] h = absurd (cc)
told_in v (r ∷ replies) h = elim (split_or (stored_as v r) (list_any (stored_as v) replies) h) [
  | inl this ↦ let s = stored_is v r this in record { index = 0; reply = r; here = refl; value = s.0; is = s.1 }
  | inr later ↦ let t = told_in v replies later in record { index = suc t.index; reply = t.reply; here = t.here; value = t.value; is = t.is }
]

located : (v : ℕ) (talks : List Talk) → list_any (stored_as v) (all_of talks) ≡ true → Located talks v
located v [] h = absurd (cc)
located v (t ∷ talks) h = elim (any_append (stored_as v) t.replies (all_of talks) h) [
  | inl this ↦ record { link = 0; talk = t; here = refl; told = told_in v t.replies this }
  | inr later ↦ let l = located v talks later in record { link = suc l.link; talk = l.talk; here = l.here; told = l.told }
]

placed_at : {X : Type 0} (R : ℕ → X → Type 0) (base : ℕ) (xs : List X) (i : ℕ) (x : X) → Placed R base xs → slice_get xs i ≡ Some x → R (base + i) x
placed_at R base [] i x h e = absurd (cc)
placed_at R base (y ∷ xs) zero x h e =
    let same : y ≡ x = cc in
    let n : base ≡ base + 0 = omega arith in
    subst (λ m. R m x) n (subst (R base) same h.0)
placed_at R base (y ∷ xs) (suc i) x h e =
    let n : base + 1 + i ≡ base + suc i = omega arith in
    subst (λ m. R m x) n (placed_at R (base + 1) xs i x h.1 e)

answer_at : (run : Run) (link base : ℕ) (asks : List Asked) (replies : List Reply) (i : ℕ) (r : Reply) → AnswersEach run link base asks replies → slice_get replies i ≡ Some r
    → (q : Asked) × (slice_get asks i ≡ Some q) × Answers run link (base + i) q r.answer
answer_at run link base asks [] i r h e = absurd (cc)
answer_at run link base [] (p ∷ replies) i r h e = absurd h
answer_at run link base (q ∷ asks) (p ∷ replies) zero r h e =
    let same : p ≡ r = cc in
    let n : base ≡ base + 0 = omega arith in
    (q, refl, subst (λ m. Answers run link m q r.answer) n (subst (λ (x : Reply). Answers run link base q x.answer) same h.0))
answer_at run link base (q ∷ asks) (p ∷ replies) (suc i) r h e =
    let k = answer_at run link (base + 1) asks replies i r h.1 e in
    let n : base + 1 + i ≡ base + suc i = omega arith in
    (k.0, k.1, subst (λ m. Answers run link m k.0 r.answer) n k.2)

-- a stored reply's record names its place and its request
pub record Recording (run : Run) (talks : List Talk) (v : ℕ) : Type 0 where
  pub at : Located talks v
  pub key : List ℕ
  pub value : List ℕ
  pub asked : slice_get at.talk.asks at.told.index ≡ Some (Request_of (Put key value))
  pub named : slice_get run.records (v - 1) ≡ Some (record { link = at.link; index = at.told.index; key = key; value = value })

named_by : (run : Run) (link index v : ℕ) (q : Asked) (bytes : List ℕ) → Answers run link index q (Stored v bytes)
    → (key : List ℕ) × (value : List ℕ) × (q ≡ Request_of (Put key value)) × (slice_get run.records (v - 1) ≡ Some (record { link = link; index = index; key = key; value = value }))
named_by run link index v (Request_of (Put key value)) bytes h = (key, value, refl, (right_stands run link index (Request_of (Put key value)) (Stored v bytes) h).4)
named_by run link index v (Request_of (Get key)) bytes h = absurd (right_stands run link index (Request_of (Get key)) (Stored v bytes) h)
named_by run link index v (Request_of End) bytes h = absurd (right_stands run link index (Request_of End) (Stored v bytes) h)
named_by run link index v (Refused_end code) bytes h = absurd (right_stands run link index (Refused_end code) (Stored v bytes) h)

recording : (run : Run) (talks : List Talk) (v : ℕ) → Placed (λ link t. AnswersEach run link 0 t.asks t.replies) 0 talks → list_any (stored_as v) (all_of talks) ≡ true → Recording run talks v
recording run talks v answers h =
    let l = located v talks h in
    let each = placed_at (λ (link : ℕ) (t : Talk). AnswersEach run link 0 t.asks t.replies) 0 talks l.link l.talk answers l.here in
    let a = answer_at run (0 + l.link) 0 l.talk.asks l.talk.replies l.told.index l.told.reply each l.told.here in
    let stored = subst (Answers run (0 + l.link) (0 + l.told.index) a.0) l.told.is a.2 in
    let n = named_by run (0 + l.link) (0 + l.told.index) v a.0 l.told.value stored in
    let e1 : 0 + l.link ≡ l.link = omega arith in
    let e2 : 0 + l.told.index ≡ l.told.index = omega arith in
    record {
      at = l;
      key = n.0;
      value = n.1;
      asked = a.1 ∙ ap Some n.2;
      named = n.3 ∙ ap (λ m. Some (record { link = m; index = 0 + l.told.index; key = n.0; value = n.1 })) e1 ∙ ap (λ m. Some (record { link = l.link; index = m; key = n.0; value = n.1 })) e2;
    }

some_is : {X : Type 0} (x y : X) → Some x ≡ Some y → x ≡ y
some_is x y h = cc

-- the new records, the first of which has this number
abbrev pub From : Run → ℕ → List Record → Type 0
From run v xs = (i : ℕ) → slice_get run.records (v - 1 + i) ≡ slice_get xs i

next_from : (run : Run) (v : ℕ) (x : Record) (xs : List Record) → 0 < v → From run v (x ∷ xs) → From run (v + 1) xs
next_from run v x xs some h i = let e : v + 1 - 1 + i ≡ v - 1 + suc i = omega arith in ap (slice_get run.records) e ∙ h (suc i)

-- what is recorded of one record
own : (run : Run) (talks : List Talk) (v : ℕ) (x : Record) (xs : List Record) → From run v (x ∷ xs) → (k : Recording run talks v) → x ≡ record { link = k.at.link; index = k.at.told.index; key = k.key; value = k.value }
own run talks v x xs h k = let e : v - 1 + 0 ≡ v - 1 = omega arith in some_is _ _ (sym (h 0) ∙ ap (slice_get run.records) e ∙ k.named)

asked_all : (run : Run) (talks : List Talk) (v : ℕ) (xs : List Record) → 0 < v → From run v xs → Placed (λ link t. AnswersEach run link 0 t.asks t.replies) 0 talks
    → Placed (λ i r. IsTrue (list_any (stored_as i) (all_of talks))) v xs → AllByRecursion (IsAsked talks) xs
asked_all run talks v [] some h answers stored = tt
asked_all run talks v (x ∷ xs) some h answers stored =
    let k = recording run talks v answers stored.0 in
    let e = own run talks v x xs h k in
    (subst (IsAsked talks) (sym e) (k.at.talk, k.at.here, k.asked), asked_all run talks (v + 1) xs (omega arith) (next_from run v x xs some h) answers stored.1)

-- one place has one version
one_version : (talks : List Talk) (v w : ℕ) (a : Located talks v) (b : Located talks w) → a.link ≡ b.link → a.told.index ≡ b.told.index → v ≡ w
one_version talks v w a b links indexes =
    let t : a.talk ≡ b.talk = some_is _ _ (sym a.here ∙ ap (slice_get talks) links ∙ b.here) in
    let r : a.told.reply ≡ b.told.reply = some_is _ _ (sym a.told.here ∙ ap (slice_get a.talk.replies) indexes ∙ ap (λ (x : Talk). slice_get x.replies b.told.index) t ∙ b.told.here) in
    let s : Stored v a.told.value ≡ Stored w b.told.value = sym a.told.is ∙ ap (λ (x : Reply). x.answer) r ∙ b.told.is in
    cc

apart_from : (run : Run) (talks : List Talk) (v w : ℕ) (x : Record) (k : Recording run talks v) (ys : List Record) → x ≡ record { link = k.at.link; index = k.at.told.index; key = k.key; value = k.value } → 0 < w → v < w → From run w ys
    → Placed (λ link t. AnswersEach run link 0 t.asks t.replies) 0 talks → Placed (λ i r. IsTrue (list_any (stored_as i) (all_of talks))) w ys → AllByRecursion (OfTwoRequests x) ys
apart_from run talks v w x k [] e some less h answers stored = tt
apart_from run talks v w x k (y ∷ ys) e some less h answers stored =
    let j = recording run talks w answers stored.0 in
    let f = own run talks w y ys h j in
    let never : OfTwoRequests x y = λ links indexes. let same : v ≡ w = one_version talks v w k.at j.at (sym (ap (λ (r : Record). r.link) e) ∙ links ∙ ap (λ (r : Record). r.link) f) (sym (ap (λ (r : Record). r.index) e) ∙ indexes ∙ ap (λ (r : Record). r.index) f) in absurd (omega arith) in
    (never, apart_from run talks v (w + 1) x k ys e (omega arith) (omega arith) (next_from run w y ys some h) answers stored.1)

once_all : (run : Run) (talks : List Talk) (v : ℕ) (xs : List Record) → 0 < v → From run v xs → Placed (λ link t. AnswersEach run link 0 t.asks t.replies) 0 talks
    → Placed (λ i r. IsTrue (list_any (stored_as i) (all_of talks))) v xs → Pairwise OfTwoRequests xs
once_all run talks v [] some h answers stored = tt
once_all run talks v (x ∷ xs) some h answers stored =
    let k = recording run talks v answers stored.0 in
    let e = own run talks v x xs h k in
    (apart_from run talks v (v + 1) x k xs e (omega arith) (omega arith) (next_from run v x xs some h) answers stored.1, once_all run talks (v + 1) xs (omega arith) (next_from run v x xs some h) answers stored.1)

get_drop : (xs : List Record) (n i : ℕ) → slice_get xs (n + i) ≡ slice_get (drop n xs) i
get_drop xs zero i = ap (slice_get xs) (omega arith)
get_drop [] (suc n) i = refl
get_drop (x ∷ xs) (suc n) i = let e : suc n + i ≡ suc (n + i) = omega arith in ap (slice_get (x ∷ xs)) e ∙ get_drop xs n i

-- the new records are those of stored replies, so each is one put of one link
pub recorded : (run : Run) (talks : List Talk) → Placed (λ link t. AnswersEach run link 0 t.asks t.replies) 0 talks
    → Placed (λ i r. IsTrue (list_any (stored_as i) (all_of talks))) (run.old + 1) (drop run.old run.records) → Recorded run talks
recorded run talks answers stored =
    let at : From run (run.old + 1) (drop run.old run.records) = λ i. (let e : run.old + 1 - 1 + i ≡ run.old + i = omega arith in ap (slice_get run.records) e ∙ get_drop run.records run.old i) in
    record {
      asked = asked_all run talks (run.old + 1) (drop run.old run.records) (omega arith) at answers stored;
      once = once_all run talks (run.old + 1) (drop run.old run.records) (omega arith) at answers stored;
    }
