-- Where a session was whole, the auditor finds nothing.
use Rattle.std.proofs.Common.{◌≡◌, ℕ, ◌+◌, ◌≤◌, ◌<◌, Bool, false, true, not, ◌&&◌, ◌||◌, List, [], ◌∷◌, ◌++◌, length, drop, map, Option, None, Some, refl, arith, ◌∙◌, ap, sym, subst, cond, append_assoc, inl, inr}
use Rattle.std.specs.Prelude.{IfSome, IsTrue, ◌==◌, nat_lt, nat_le, count_by}
use Rattle.std.specs.List.{AllByRecursion, AllZip, list_any}
use Rattle.std.proofs.lemmas.Bool.Decides.{nat_tests}
use Rattle.std.proofs.lemmas.Bool.{cases_lt, cases_eq}
use Rattle.std.proofs.lemmas.List.Folds.{flat_map-map}
use Rattle.demi_spec.specs.Reply.{Reply}
use Rattle.demi_spec.specs.Record.{Record}
use Rattle.demi_spec.specs.Input.{Asked}
use Rattle.demi_served.specs.Talks.{Run, LinkRun, Talk, all_of}
use Rattle.demi_served.specs.Answers.{AnswersEach, version_of, is_stored}
use Rattle.demi_served.specs.Served.{Pairwise, Placed, NeverFalls, InStep, same_worker, stored_as, Whole, WholeTalk}
use Rattle.demi_audit.specs.Verdict.{Fault, EntryAt, Heard, HeardAll, Around, next_to, answers, falls, falls_by, repeats, lags, is_right, link_fault, links_fault, at_link, records_fault, said, first_fault}
use Rattle.demi_audit.proofs.Standing.{and, is_under, is_most}
use Rattle.demi_audit.proofs.Answering.{answers_hold}
use Rattle.demi_audit.proofs.Sound.{Fine, Unrepeated, every}
use Rattle.demi_audit.proofs.OneHearing.{one_hearing}

any_none : {X : Type 0} (test : X → Bool) (xs : List X) → AllByRecursion (λ x. test x ≡ false) xs → not (list_any test xs) ≡ true
any_none test [] h = refl
any_none test (x ∷ xs) h = pass (test x) (list_any test xs) h.0 (any_none test xs h.1)
  where
    pass : (a b : Bool) → a ≡ false → not b ≡ true → not (a || b) ≡ true
    pass true b p q = absurd (cc)
    pass false b p q = q

-- what pairs say of an element and those before it
pair_at : {X : Type 0} (R : X → X → Type 0) (xs : List X) (y : X) (ys : List X) → Pairwise R (xs ++ y ∷ ys) → AllByRecursion (λ x. R x y) xs
pair_at R [] y ys h = tt
pair_at {X = X} R (x ∷ xs) y ys h = (at xs h.0, pair_at R xs y ys h.1)
  where
    at : (zs : List X) → AllByRecursion (R x) (zs ++ y ∷ ys) → R x y
    at [] k = k.0
    at (z ∷ zs) k = at zs k.1

pairs_part : {X : Type 0} (R : X → X → Type 0) (xs ys : List X) → Pairwise R (xs ++ ys) → Pairwise R xs
pairs_part R [] ys h = tt
pairs_part {X = X} R (x ∷ xs) ys h = (part xs h.0, pairs_part R xs ys h.1)
  where
    part : (zs : List X) → AllByRecursion (R x) (zs ++ ys) → AllByRecursion (R x) zs
    part [] k = tt
    part (z ∷ zs) k = (k.0, part zs k.1)

not_falling : (strict : Bool) (v w : ℕ) → (v ≤ w) × (IsTrue strict → v < w) → (nat_lt w v || (strict && (w == v))) ≡ false
not_falling true v w h =
    let less : v < w = h.1 refl in
    let t1 : nat_lt w v ≡ false = grind (arith, nat_tests) in
    let t2 : (w == v) ≡ false = grind (arith, nat_tests) in
    rw (t1, t2) refl
not_falling false v w h =
    let most : v ≤ w = h.0 in
    let t1 : nat_lt w v ≡ false = grind (arith, nat_tests) in
    rw t1 refl

falls_never : (strict : Bool) (o p : Option ℕ) → IfSome o (λ v. IfSome p (λ w. (v ≤ w) × (IsTrue strict → v < w))) → falls_by strict o p ≡ false
falls_never strict None p h = refl
falls_never strict (Some v) None h = refl
falls_never strict (Some v) (Some w) h = not_falling strict v w h

rising : (o p : Option ℕ) → IfSome o (λ v. IfSome p (λ w. v ≤ w)) → falls_by false o p ≡ false
rising None p h = refl
rising (Some v) None h = refl
rising (Some v) (Some w) h = not_falling false v w (h, λ e. absurd (cc))

turned_back : (o p : Option ℕ) → IfSome p (λ w. IfSome o (λ v. v ≤ w)) → IfSome o (λ v. IfSome p (λ w. v ≤ w))
turned_back None None h = tt
turned_back None (Some w) h = tt
turned_back (Some v) None h = tt
turned_back (Some v) (Some w) h = h

-- a reply lags behind none
no_lag : (r other : Reply) → (r.worker ≡ other.worker → other.sequence < r.sequence → IfSome (version_of other.answer) (λ v. IfSome (version_of r.answer) (λ w. v ≤ w))) → lags r other ≡ false
no_lag r other f = elim (cases_eq other.worker r.worker) [
  | inl same ↦ elim (cases_lt other.sequence r.sequence) [
    | inl less ↦ three (other.worker == r.worker) (nat_lt other.sequence r.sequence) (falls_by false (version_of other.answer) (version_of r.answer)) (rising (version_of other.answer) (version_of r.answer) (f (sym same) less))
    | inr more ↦ two (other.worker == r.worker) (nat_lt other.sequence r.sequence) (falls_by false (version_of other.answer) (version_of r.answer)) (grind (arith, nat_tests))
  ]
  | inr apart ↦ one (other.worker == r.worker) (nat_lt other.sequence r.sequence && falls_by false (version_of other.answer) (version_of r.answer)) (grind (arith, nat_tests))
]
  where
    three : (a b c : Bool) → c ≡ false → (a && (b && c)) ≡ false
    three true true c h = h
    three true false c h = refl
    three false b c h = refl

    two : (a b c : Bool) → b ≡ false → (a && (b && c)) ≡ false
    two true true c h = absurd (cc)
    two true false c h = refl
    two false b c h = refl

    one : (a b : Bool) → a ≡ false → (a && b) ≡ false
    one true b h = absurd (cc)
    one false b h = refl

unrepeated : (a b : Reply) → InStep a b → Unrepeated a b
unrepeated a b s = elim (cases_eq a.worker b.worker) [
  | inl same ↦ elim (cases_eq a.sequence b.sequence) [
    | inl equal ↦ absurd (s.differ same equal)
    | inr other ↦ second (a.worker == b.worker) (a.sequence == b.sequence) (grind (arith, nat_tests))
  ]
  | inr apart ↦ first (a.worker == b.worker) (a.sequence == b.sequence) (grind (arith, nat_tests))
]
  where
    first : (p q : Bool) → p ≡ false → (p && q) ≡ false
    first true q h = absurd (cc)
    first false q h = refl

    second : (p q : Bool) → q ≡ false → (p && q) ≡ false
    second true q h = h
    second false q h = refl

pairs_map : (xs : List Reply) → Pairwise InStep xs → Pairwise Unrepeated xs
pairs_map [] h = tt
pairs_map (x ∷ xs) h = (every (InStep x) (Unrepeated x) (λ y s. unrepeated x y s) xs h.0, pairs_map xs h.1)

steps_all : (xs : List Reply) → Pairwise InStep xs → AllByRecursion (λ r. AllByRecursion (λ other. lags r other ≡ false) xs) xs
steps_all [] h = tt
steps_all (x ∷ xs) h =
    ((no_lag x x (λ same less. absurd (omega arith)), every (InStep x) (λ other. lags x other ≡ false) (λ y s. no_lag x y (λ same less. turned_back (version_of y.answer) (version_of x.answer) (s.falls same less))) xs h.0), rest xs h.0 (steps_all xs h.1))
  where
    rest : (ys : List Reply) → AllByRecursion (InStep x) ys → AllByRecursion (λ r. AllByRecursion (λ other. lags r other ≡ false) xs) ys → AllByRecursion (λ r. AllByRecursion (λ other. lags r other ≡ false) (x ∷ xs)) ys
    rest [] a b = tt
    rest (y ∷ ys) a b = ((no_lag y x (λ same less. a.0.rises (sym same) less), b.0), rest ys a.1 b.1)

link_none : (run : Run) (a : Around) (link index : ℕ) (asks : List Asked) (replies : List Reply) → length replies ≡ length asks → AnswersEach run link index asks replies
    → Pairwise NeverFalls (a.mine ++ replies) → AllByRecursion (Fine a.all) replies → Pairwise Unrepeated (a.before ++ replies) → link_fault run a link index [] asks replies ≡ None
link_none run a link index [] [] same answer mine fine before = refl
link_none run a link index [] (r ∷ replies) same answer mine fine before = absurd answer
link_none run a link index (q ∷ asks) [] same answer mine fine before = absurd (omega arith)
link_none run a link index (q ∷ asks) (r ∷ replies) same answer mine fine before =
    let f = fine.0 in
    let never = every (λ x. NeverFalls x r) (λ x. falls r x ≡ false) (λ x n. falls_never (is_stored r.answer) (version_of x.answer) (version_of r.answer) n) a.mine (pair_at NeverFalls a.mine r replies mine) in
    let once = pair_at Unrepeated a.before r replies before in
    let right : is_right run a link index q r ≡ true =
    and (answers run link index q r.answer) _ (answers_hold run link index q r.answer answer.0)
    (and (not (list_any (falls r) a.mine)) _ (any_none (falls r) a.mine never)
    (and (nat_lt 0 r.sequence) _ (is_under 0 r.sequence f.first)
    (and (nat_le r.sequence (count_by (same_worker r) a.all)) _ (is_most r.sequence (count_by (same_worker r) a.all) f.last)
    (and (not (list_any (repeats r) a.before)) _ (any_none (repeats r) a.before once) (any_none (lags r) a.all f.steps))))) in
    let more = link_none run (next_to a r) link (index + 1) asks replies (omega arith) answer.1
    (subst (Pairwise NeverFalls) (sym (append_assoc a.mine (r ∷ []) replies)) mine) fine.1
    (subst (Pairwise Unrepeated) (sym (append_assoc a.before (r ∷ []) replies)) before) in
    ap (λ (b : Bool). cond b (link_fault run (next_to a r) link (index + 1) [] asks replies) (Some index)) right ∙ more

-- talks with nothing behind their replies
abbrev pub quiet : List Talk → List Heard
quiet talks = map (λ t. record { talk = t; rest = [] }) talks

links_none : (run : Run) (all before : List Reply) (link : ℕ) (talks : List Talk) (later : Option Fault) → AllByRecursion (λ t. length t.replies ≡ length t.asks) talks
    → Placed (λ i t. AnswersEach run i 0 t.asks t.replies) link talks → AllByRecursion (λ t. Pairwise NeverFalls t.replies) talks → AllByRecursion (Fine all) (all_of talks)
    → Pairwise Unrepeated (before ++ all_of talks) → later ≡ None → links_fault run all before link (quiet talks) later ≡ None
links_none run all before link [] later same answer fall fine pairs last = last
links_none run all before link (t ∷ talks) later same answer fall fine pairs last =
    let a : Around = record { all = all; before = before; mine = [] } in
    let joined : Pairwise Unrepeated ((before ++ t.replies) ++ all_of talks) = subst (Pairwise Unrepeated) (sym (append_assoc before t.replies (all_of talks))) pairs in
    let one = link_none run a link 0 t.asks t.replies same.0 answer.0 fall.0 (front_of t.replies (all_of talks) fine) (pairs_part Unrepeated (before ++ t.replies) (all_of talks) joined) in
    let more = links_none run all (before ++ t.replies) (link + 1) talks later same.1 answer.1 fall.1 (back_of t.replies (all_of talks) fine) joined last in
    ap (λ o. at_link link o (links_fault run all (before ++ t.replies) (link + 1) (quiet talks) later)) one ∙ more
  where
    front_of : (xs ys : List Reply) → AllByRecursion (Fine all) (xs ++ ys) → AllByRecursion (Fine all) xs
    front_of [] ys h = tt
    front_of (x ∷ xs) ys h = (h.0, front_of xs ys h.1)

    back_of : (xs ys : List Reply) → AllByRecursion (Fine all) (xs ++ ys) → AllByRecursion (Fine all) ys
    back_of [] ys h = h
    back_of (x ∷ xs) ys h = back_of xs ys h.1

records_none : (all : List Reply) (v : ℕ) (records : List Record) → Placed (λ i r. IsTrue (list_any (stored_as i) all)) v records → records_fault all v records ≡ None
records_none all v [] h = refl
records_none all v (r ∷ records) h = ap (λ (b : Bool). cond b (records_fault all (v + 1) records) (Some (EntryAt v))) h.0 ∙ records_none all (v + 1) records h.1

-- the links of a whole session are heard as their talks
heard_as : (links : List LinkRun) (talks : List Talk) (heard : List Heard) → AllZip WholeTalk links talks → HeardAll links heard
    → (heard ≡ quiet talks) × AllByRecursion (λ t. length t.replies ≡ length t.asks) talks
heard_as [] [] [] w h = (refl, tt)
heard_as [] [] (x ∷ heard) w h = absurd h
heard_as [] (t ∷ talks) heard w h = absurd w
heard_as (l ∷ links) [] heard w h = absurd w
heard_as (l ∷ links) (t ∷ talks) [] w h = absurd h
heard_as (l ∷ links) (t ∷ talks) (x ∷ heard) w h =
    let k = heard_as links talks heard w.1 h.1 in
    (ap (λ (y : Heard). y ∷ heard) (one_hearing l t x w.0 h.0) ∙ ap (λ (ys : List Heard). record { talk = t; rest = [] } ∷ ys) k.0, (w.0.each, k.1))

fine_all : (talks : List Talk) → AllByRecursion (λ r. 1 ≤ r.sequence) (all_of talks) → AllByRecursion (λ r. r.sequence ≤ count_by (same_worker r) (all_of talks)) (all_of talks) → Pairwise InStep (all_of talks) → AllByRecursion (Fine (all_of talks)) (all_of talks)
fine_all talks first last steps = three (all_of talks) first last (steps_all (all_of talks) steps)
  where
    three : (xs : List Reply) → AllByRecursion (λ r. 1 ≤ r.sequence) xs → AllByRecursion (λ r. r.sequence ≤ count_by (same_worker r) (all_of talks)) xs → AllByRecursion (λ r. AllByRecursion (λ other. lags r other ≡ false) (all_of talks)) xs → AllByRecursion (Fine (all_of talks)) xs
    three [] a b c = tt
    three (x ∷ xs) a b c = (record { first = a.0; last = b.0; steps = c.0 }, three xs a.1 b.1 c.1)

pub whole_is_yes : (run : Run) (heard : List Heard) → HeardAll run.links heard → Whole run → first_fault run heard ≡ None
whole_is_yes run heard h w =
    let talks = w.talks in
    let c = w.consistent in
    let k = heard_as run.links talks heard w.read h in
    let all = all_of talks in
    let same : said (quiet talks) ≡ all = flat_map-map (λ (x : Heard). x.talk.replies) (λ (t : Talk). record { talk = t; rest = [] }) talks in
    ap (first_fault run) k.0
    ∙ ap (λ l. links_fault run l [] 0 (quiet talks) (records_fault l (run.old + 1) (drop run.old run.records))) same
    ∙ links_none run all [] 0 talks (records_fault all (run.old + 1) (drop run.old run.records)) k.1 c.answers c.links (fine_all talks c.counted w.numbered c.workers) (pairs_map all c.workers)
    (records_none all (run.old + 1) (drop run.old run.records) w.stored)
