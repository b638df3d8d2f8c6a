-- Where the auditor finds nothing, the replies are answers of one store.
use Rattle.std.proofs.Common.{◌≡◌, ℕ, suc, ◌+◌, ◌≤◌, ◌<◌, Bool, false, true, not, ◌&&◌, ◌||◌, List, [], ◌∷◌, ◌++◌, length, drop, map, Option, None, Some, refl, arith, ap, sym, subst, cond, append_assoc, inl, inr}
use Rattle.std.specs.Prelude.{IfSome, IsTrue, ◌==◌, nat_lt, nat_le, count_by}
use Rattle.std.specs.List.{AllByRecursion, list_any}
use Rattle.std.proofs.lemmas.Bool.Decides.{nat_tests}
use Rattle.std.proofs.lemmas.Bool.{cases_lt, cases_eq}
use Rattle.std.proofs.lemmas.List.{append-nil}
use Rattle.std.proofs.lemmas.List.Folds.{flat_map-map}
use Rattle.demi_spec.specs.Reply.{Reply}
use Rattle.demi_spec.specs.Record.{Record}
use Rattle.demi_spec.specs.Input.{Asked}
use Rattle.demi_served.specs.Talks.{Run, Talk, all_of}
use Rattle.demi_served.specs.Answers.{AnswersEach, version_of, is_stored}
use Rattle.demi_served.specs.Served.{Pairwise, Placed, NeverFalls, InStep, Consistent, same_worker, stored_as}
use Rattle.demi_audit.specs.Verdict.{Fault, EntryAt, Heard, Around, next_to, answers, falls, falls_by, repeats, lags, is_right, link_fault, links_fault, at_link, records_fault, said, first_fault}
use Rattle.demi_audit.proofs.Standing.{both, is_false, below, at_most}
use Rattle.demi_audit.proofs.Answering.{answers_right}

none_of : {X : Type 0} (test : X → Bool) (xs : List X) → list_any test xs ≡ false → AllByRecursion (λ x. test x ≡ false) xs
none_of test [] h = tt
none_of test (x ∷ xs) h = (first (test x) (list_any test xs) h, none_of test xs (second (test x) (list_any test xs) h))
  where
    first : (a b : Bool) → (a || b) ≡ false → a ≡ false
    first true b h = absurd (cc)
    first false b h = refl

    second : (a b : Bool) → (a || b) ≡ false → b ≡ false
    second true b h = absurd (cc)
    second false b h = h

pub every : {X : Type 0} (P Q : X → Type 0) → ((x : X) → P x → Q x) → (xs : List X) → AllByRecursion P xs → AllByRecursion Q xs
every P Q f [] h = tt
every P Q f (x ∷ xs) h = (f x h.0, every P Q f xs h.1)

pub each_append : {X : Type 0} (P : X → Type 0) (xs ys : List X) → AllByRecursion P xs → AllByRecursion P ys → AllByRecursion P (xs ++ ys)
each_append P [] ys h k = k
each_append P (x ∷ xs) ys h k = (h.0, each_append P xs ys h.1 k)

-- one more behind pairs
pair_push : {X : Type 0} (R : X → X → Type 0) (xs : List X) (y : X) → Pairwise R xs → AllByRecursion (λ x. R x y) xs → Pairwise R (xs ++ y ∷ [])
pair_push R [] y h k = (tt, tt)
pair_push R (x ∷ xs) y h k = (each_append (R x) xs (y ∷ []) h.0 (k.0, tt), pair_push R xs y h.1 k.1)

-- versions that do not fall
falls_right : (strict : Bool) (v w : ℕ) → (nat_lt w v || (strict && (w == v))) ≡ false → (v ≤ w) × (IsTrue strict → v < w)
falls_right true v w h = elim (cases_lt w v) [
  | inl less ↦ absurd (grind (arith, nat_tests))
  | inr more ↦ elim (cases_eq w v) [
    | inl same ↦ absurd (grind (arith, nat_tests))
    | inr other ↦ (more, λ _. omega arith)
  ]
]
falls_right false v w h = elim (cases_lt w v) [
  | inl less ↦ absurd (grind (arith, nat_tests))
  | inr more ↦ (more, λ e. absurd (cc))
]

never_by : (strict : Bool) (o p : Option ℕ) → falls_by strict o p ≡ false → IfSome o (λ v. IfSome p (λ w. (v ≤ w) × (IsTrue strict → v < w)))
never_by strict None p h = tt
never_by strict (Some v) None h = tt
never_by strict (Some v) (Some w) h = falls_right strict v w h

never_falls : (later earlier : Reply) → falls later earlier ≡ false → NeverFalls earlier later
never_falls later earlier h = never_by (is_stored later.answer) (version_of earlier.answer) (version_of later.answer) h

-- what is right of a reply beside its request and its link
pub record Fine (all : List Reply) (r : Reply) : Type 0 where
  pub first : 1 ≤ r.sequence
  pub last : r.sequence ≤ count_by (same_worker r) all
  pub steps : AllByRecursion (λ other. lags r other ≡ false) all

abbrev pub Unrepeated : Reply → Reply → Type 0
Unrepeated earlier later = repeats later earlier ≡ false

pub record LinkRight (run : Run) (a : Around) (link index : ℕ) (rest : List ℕ) (asks : List Asked) (replies : List Reply) : Type 0 where
  pub none : rest ≡ []
  pub each : length replies ≡ length asks
  pub answers : AnswersEach run link index asks replies
  pub mine : Pairwise NeverFalls a.mine → Pairwise NeverFalls (a.mine ++ replies)
  pub fine : AllByRecursion (Fine a.all) replies
  pub before : Pairwise Unrepeated a.before → Pairwise Unrepeated (a.before ++ replies)

on_right : {X : Type 0} (b : Bool) (x : Option X) (i : X) → cond b x (Some i) ≡ None → (b ≡ true) × (x ≡ None)
on_right true x i h = (refl, h)
on_right false x i h = absurd (cc)

pub link_right : (run : Run) (a : Around) (link index : ℕ) (rest : List ℕ) (asks : List Asked) (replies : List Reply) → link_fault run a link index rest asks replies ≡ None → LinkRight run a link index rest asks replies
link_right run a link index [] [] [] h = record {
  none = refl;
  each = refl;
  answers = tt;
  mine = λ p. subst (Pairwise NeverFalls) (sym (append-nil a.mine)) p;
  fine = tt;
  before = λ p. subst (Pairwise Unrepeated) (sym (append-nil a.before)) p;
}
link_right run a link index (b ∷ rest) [] [] h = absurd (cc)
link_right run a link index rest [] (r ∷ replies) h = absurd (cc)
link_right run a link index rest (q ∷ asks) [] h = absurd (cc)
link_right run a link index rest (q ∷ asks) (r ∷ replies) h =
    let t = on_right (is_right run a link index q r) (link_fault run (next_to a r) link (index + 1) rest asks replies) index h in
    let k = link_right run (next_to a r) link (index + 1) rest asks replies t.1 in
    let b1 = both (answers run link index q r.answer) _ t.0 in
    let b2 = both (not (list_any (falls r) a.mine)) _ b1.1 in
    let b3 = both (nat_lt 0 r.sequence) _ b2.1 in
    let b4 = both (nat_le r.sequence (count_by (same_worker r) a.all)) _ b3.1 in
    let b5 = both (not (list_any (repeats r) a.before)) _ b4.1 in
    let never = every (λ x. falls r x ≡ false) (λ x. NeverFalls x r) (λ x. never_falls r x) a.mine (none_of (falls r) a.mine (is_false _ b2.0)) in
    let unrepeated = none_of (repeats r) a.before (is_false _ b5.0) in
    record {
      none = k.none;
      each = ap suc k.each;
      answers = (answers_right run link index q r.answer b1.0, k.answers);
      mine = λ p. subst (Pairwise NeverFalls) (append_assoc a.mine (r ∷ []) replies) (k.mine (pair_push NeverFalls a.mine r p never));
      fine = (record { first = below 0 r.sequence b3.0; last = at_most r.sequence (count_by (same_worker r) a.all) b4.0; steps = none_of (lags r) a.all (is_false _ b5.1) }, k.fine);
      before = λ p. subst (Pairwise Unrepeated) (append_assoc a.before (r ∷ []) replies) (k.before (pair_push Unrepeated a.before r p unrepeated));
    }

-- the same over the links
abbrev pub WholeHeard : Heard → Type 0
WholeHeard h = (h.rest ≡ []) × (length h.talk.replies ≡ length h.talk.asks)

abbrev pub talks : List Heard → List Talk
talks links = map (λ h. h.talk) links

pub record LinksRight (run : Run) (all before : List Reply) (link : ℕ) (links : List Heard) (later : Option Fault) : Type 0 where
  pub whole : AllByRecursion WholeHeard links
  pub answers : Placed (λ i t. AnswersEach run i 0 t.asks t.replies) link (talks links)
  pub links_fall : AllByRecursion (λ t. Pairwise NeverFalls t.replies) (talks links)
  pub fine : AllByRecursion (Fine all) (said links)
  pub pairs : Pairwise Unrepeated before → Pairwise Unrepeated (before ++ said links)
  pub rest : later ≡ None

on_link : (link : ℕ) (o : Option ℕ) (later : Option Fault) → at_link link o later ≡ None → (o ≡ None) × (later ≡ None)
on_link link None later h = (refl, h)
on_link link (Some index) later h = absurd (cc)

pub links_right : (run : Run) (all before : List Reply) (link : ℕ) (links : List Heard) (later : Option Fault) → links_fault run all before link links later ≡ None → LinksRight run all before link links later
links_right run all before link [] later h = record {
  whole = tt;
  answers = tt;
  links_fall = tt;
  fine = tt;
  pairs = λ p. subst (Pairwise Unrepeated) (sym (append-nil before)) p;
  rest = h;
}
links_right run all before link (x ∷ links) later h =
    let a : Around = record { all = all; before = before; mine = [] } in
    let t = on_link link (link_fault run a link 0 x.rest x.talk.asks x.talk.replies) (links_fault run all (before ++ x.talk.replies) (link + 1) links later) h in
    let one = link_right run a link 0 x.rest x.talk.asks x.talk.replies t.0 in
    let more = links_right run all (before ++ x.talk.replies) (link + 1) links later t.1 in
    record {
      whole = ((one.none, one.each), more.whole);
      answers = (one.answers, more.answers);
      links_fall = (one.mine tt, more.links_fall);
      fine = each_append (Fine all) x.talk.replies (said links) one.fine more.fine;
      pairs = λ p. subst (Pairwise Unrepeated) (append_assoc before x.talk.replies (said links)) (more.pairs (one.before p));
      rest = more.rest;
    }

pub records_right : (all : List Reply) (v : ℕ) (records : List Record) → records_fault all v records ≡ None → Placed (λ i r. IsTrue (list_any (stored_as i) all)) v records
records_right all v [] h = tt
records_right all v (r ∷ records) h =
    let t = on_right (list_any (stored_as v) all) (records_fault all (v + 1) records) (EntryAt v) h in
    (t.0, records_right all (v + 1) records t.1)

-- no two replies of a worker are out of step
rises_by : (o p : Option ℕ) → falls_by false o p ≡ false → IfSome o (λ v. IfSome p (λ w. v ≤ w))
rises_by None p h = tt
rises_by (Some v) None h = tt
rises_by (Some v) (Some w) h = (falls_right false v w h).0

turned : (o p : Option ℕ) → IfSome o (λ v. IfSome p (λ w. v ≤ w)) → IfSome p (λ w. IfSome o (λ v. v ≤ w))
turned None None h = tt
turned None (Some w) h = tt
turned (Some v) None h = tt
turned (Some v) (Some w) h = h

lags_right : (r other : Reply) → lags r other ≡ false → r.worker ≡ other.worker → other.sequence < r.sequence → IfSome (version_of other.answer) (λ v. IfSome (version_of r.answer) (λ w. v ≤ w))
lags_right r other h same less =
    let t1 : (other.worker == r.worker) ≡ true = grind (arith, nat_tests) in
    let t2 : nat_lt other.sequence r.sequence ≡ true = grind (arith, nat_tests) in
    rises_by (version_of other.answer) (version_of r.answer) (left (other.worker == r.worker) (nat_lt other.sequence r.sequence) (falls_by false (version_of other.answer) (version_of r.answer)) t1 t2 h)
  where
    left : (a b c : Bool) → a ≡ true → b ≡ true → (a && (b && c)) ≡ false → c ≡ false
    left true true c p q k = k
    left false b c p q k = absurd (cc)
    left true false c p q k = absurd (cc)

in_step : (a b : Reply) → Unrepeated a b → lags a b ≡ false → lags b a ≡ false → InStep a b
in_step a b once la lb = record {
  differ = λ same equal. apart same equal;
  rises = λ same less. lags_right b a lb (sym same) less;
  falls = λ same less. turned (version_of b.answer) (version_of a.answer) (lags_right a b la same less);
}
  where
    apart : a.worker ≡ b.worker → a.sequence ≡ b.sequence → ⊥
    apart same equal =
        let t1 : (a.worker == b.worker) ≡ true = grind (arith, nat_tests) in
        let t2 : (a.sequence == b.sequence) ≡ true = grind (arith, nat_tests) in
        clash (a.worker == b.worker) (a.sequence == b.sequence) t1 t2 once
      where
        clash : (p q : Bool) → p ≡ true → q ≡ true → (p && q) ≡ false → ⊥
        clash true true x y h = cc
        clash true false x y h = cc
        clash false q x y h = cc

steps_of : (xs : List Reply) → AllByRecursion (λ r. AllByRecursion (λ other. lags r other ≡ false) xs) xs → Pairwise Unrepeated xs → Pairwise InStep xs
steps_of [] h p = tt
steps_of (x ∷ xs) h p = (heads xs h.0.1 h.1 p.0, steps_of xs (tails xs h.1) p.1)
  where
    heads : (ys : List Reply) → AllByRecursion (λ other. lags x other ≡ false) ys → AllByRecursion (λ r. AllByRecursion (λ other. lags r other ≡ false) (x ∷ xs)) ys → AllByRecursion (Unrepeated x) ys → AllByRecursion (InStep x) ys
    heads [] a b c = tt
    heads (y ∷ ys) a b c = (in_step x y c.0 a.0 b.0.0, heads ys a.1 b.1 c.1)

    tails : (ys : List Reply) → AllByRecursion (λ r. AllByRecursion (λ other. lags r other ≡ false) (x ∷ xs)) ys → AllByRecursion (λ r. AllByRecursion (λ other. lags r other ≡ false) xs) ys
    tails [] b = tt
    tails (y ∷ ys) b = (b.0.1, tails ys b.1)

-- what holds where no fault is found in what was heard
pub record Right (run : Run) (links : List Heard) : Type 0 where
  pub whole : AllByRecursion WholeHeard links
  pub consistent : Consistent run (talks links)
  pub numbered : AllByRecursion (λ r. r.sequence ≤ count_by (same_worker r) (all_of (talks links))) (all_of (talks links))
  pub stored : Placed (λ v r. IsTrue (list_any (stored_as v) (all_of (talks links)))) (run.old + 1) (drop run.old run.records)

pub no_fault : (run : Run) (links : List Heard) → first_fault run links ≡ None → Right run links
no_fault run links h =
    let all = said links in
    let k = links_right run all [] 0 links (records_fault all (run.old + 1) (drop run.old run.records)) h in
    let same : said links ≡ all_of (talks links) = sym (flat_map-map (λ (t : Talk). t.replies) (λ (x : Heard). x.talk) links) in
    let steps : Pairwise InStep (said links) = steps_of (said links) (every (Fine all) (λ r. AllByRecursion (λ other. lags r other ≡ false) all) (λ r f. f.steps) (said links) k.fine) (k.pairs tt) in
    record {
      whole = k.whole;
      consistent = record {
        answers = k.answers;
        links = k.links_fall;
        counted = subst (AllByRecursion (λ r. 1 ≤ r.sequence)) same (every (Fine all) (λ r. 1 ≤ r.sequence) (λ r f. f.first) (said links) k.fine);
        workers = subst (Pairwise InStep) same steps;
      };
      numbered = subst (λ l. AllByRecursion (λ r. r.sequence ≤ count_by (same_worker r) l) l) same (every (Fine all) (λ r. r.sequence ≤ count_by (same_worker r) all) (λ r f. f.last) (said links) k.fine);
      stored = subst (λ l. Placed (λ v r. IsTrue (list_any (stored_as v) l)) (run.old + 1) (drop run.old run.records)) same (records_right all (run.old + 1) (drop run.old run.records) k.rest);
    }
