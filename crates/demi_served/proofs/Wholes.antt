-- Where nothing failed the session was whole.
use Rattle.std.proofs.Common.{◌≡◌, ◌≢◌, ℕ, zero, suc, ◌+◌, ◌-◌, ◌≤◌, ◌<◌, Bool, true, false, List, [], ◌∷◌, ◌++◌, length, take, drop, Some, refl, arith, ◌∙◌, ap, sym, subst, cond, append-nil, inl, inr, le_refl, ◌||◌}
use Rattle.std.specs.Prelude.{slice_get, ◌==◌, IsTrue}
use Rattle.std.specs.List.{AllByRecursion, AllZip, list_any, count_by}
use Rattle.std.proofs.lemmas.Bool.Decides.{nat_tests}
use Rattle.std.proofs.lemmas.Bool.{cases_lt, cases_eq}
use Rattle.std.proofs.lemmas.List.Sums.{sum_by-append}
use Rattle.std.proofs.Math.Seq.{drop-append_seam}
use Rattle.demi_port.specs.Seen.{says}
use Rattle.demi_port_core.specs.declared.trail.Trail.{Trail}
use Rattle.demi_spec.specs.Request.{Put}
use Rattle.demi_spec.specs.Input.{Asked, Request_of}
use Rattle.demi_spec.specs.Reply.{Answer, Reply, Stored}
use Rattle.demi_spec.specs.Record.{Record}
use Rattle.demi_store.specs.History.{Told, Fault, Standing, opened, struck_at}
use Rattle.demi_store.specs.Laws.{StoreBasis}
use Rattle.demi_store.specs.declared.ask.StoreAsk.{StoreAsk}
use Rattle.demi_store.specs.declared.told.StoreTold.{StoreTold}
use Rattle.demi_served.specs.Talks.{LinkRun, Run, Talk, all_of}
use Rattle.demi_served.specs.Served.{Placed, Whole, WholeTalk, same_worker, stored_as, stores_as}
use Rattle.demi_served.specs.Asking.{Ask, Puts, ask_of}
use Rattle.demi_served.specs.Accounts.{StoreEntry, asked_in, LeftInLog, IsLeft, IsAccounted, Accounted}
use Rattle.demi_served.specs.Keeps.{Draw, Worker, Link, of_link, numbered}
use Rattle.demi_served.specs.Ends.{IsForOwn, IsTalkOf, StoreEnds}
use Rattle.demi_served.proofs.Lists.{some_is, all_at, all_by, all_flat, placed_at, placed_by, get_within}
use Rattle.demi_served.proofs.Folds.{said_at, standing_from, storeresult, stored_from, history_adds, end_is}
use Rattle.demi_served.proofs.Serves.{entry_at, placing, consistent, recorded}
use Rattle.demi_served.proofs.Comes.{fault_said}
use Rattle.demi_served.proofs.Versions.{IsStoredAs, StoredFrom, all_stored}
use Rattle.demi_served.proofs.Closes.{get_some, zip_other, accounted, speaking, replies_at}

-- Counting.
-- the draws of the links from a number on
abbrev pub draws_of : {X : Type 0} → ℕ → List X → List Draw → ℕ
draws_of base [] draws = 0
draws_of base (x ∷ xs) draws = length (of_link base draws) + draws_of (base + 1) xs draws

no_fewer : {X : Type 0} (base : ℕ) (xs : List X) (d : Draw) (draws : List Draw)
    → draws_of base xs draws ≤ draws_of base xs (d ∷ draws)
no_fewer base [] d draws = le_refl 0
no_fewer base (x ∷ xs) d draws = let rest = no_fewer (base + 1) xs d draws in let one = go (d.link == base) in omega arith
  where
    go : (c : Bool) → length (of_link base draws) ≤ length (cond c (d ∷ of_link base draws) (of_link base draws))
    go true = omega arith
    go false = le_refl _

one_more : {X : Type 0} (base : ℕ) (xs : List X) (d : Draw) (draws : List Draw) → base ≤ d.link
    → d.link < base + length xs → draws_of base xs draws + 1 ≤ draws_of base xs (d ∷ draws)
one_more base [] d draws low high = absurd (omega arith)
one_more base (x ∷ xs) d draws low high = elim (cases_eq d.link base) [
  | inl same ↦
      let test : (d.link == base) ≡ true = grind (arith, nat_tests) in
      let first : length (of_link base (d ∷ draws)) ≡ suc (length (of_link base draws)) = ap (λ (c : Bool). length (cond c (d ∷ of_link base draws) (of_link base draws))) test in
      let rest = no_fewer (base + 1) xs d draws in
      add (length (of_link base draws)) (length (of_link base (d ∷ draws))) (draws_of (base + 1) xs draws) (draws_of (base + 1) xs (d ∷ draws)) first rest
  | inr differ ↦
      let test : (d.link == base) ≡ false = grind (arith, nat_tests) in
      let first : length (of_link base (d ∷ draws)) ≡ length (of_link base draws) = ap (λ (c : Bool). length (cond c (d ∷ of_link base draws) (of_link base draws))) test in
      let above : base + 1 ≤ d.link = over low differ in
      let rest = one_more (base + 1) xs d draws above (omega arith) in
      shift (length (of_link base draws)) (length (of_link base (d ∷ draws))) (draws_of (base + 1) xs draws) (draws_of (base + 1) xs (d ∷ draws)) first rest
]
  where
    add : (a b c e : ℕ) → b ≡ suc a → c ≤ e → a + c + 1 ≤ b + e
    add a b c e same l = omega (arith, same)

    shift : (a b c e : ℕ) → b ≡ a → c + 1 ≤ e → a + c + 1 ≤ b + e
    shift a b c e same l = omega (arith, same)

    over : {a b : ℕ} → a ≤ b → b ≢ a → a + 1 ≤ b
    over {a} {b} l n = elim (cases_lt a b) [ inl less ↦ omega arith | inr not_less ↦ absurd (n (omega arith)) ]

all_counted : {X : Type 0} (xs : List X) (draws : List Draw) → AllByRecursion (λ d. d.link < length xs) draws
    → length draws ≤ draws_of 0 xs draws
all_counted xs [] h = omega arith
all_counted xs (d ∷ draws) h = let rest = all_counted xs draws h.1 in let one = one_more 0 xs d draws (omega arith) (let less = h.0 in omega arith) in omega arith

count_all : (test : Reply → Bool) (rs : List Reply) → AllByRecursion (λ r. test r ≡ true) rs
    → count_by test rs ≡ length rs
count_all test [] h = refl
count_all test (r ∷ rs) h = let e = count_all test rs h.1 in let one : cond {A = ℕ} (test r) 1 0 ≡ 1 = ap (λ c. cond {A = ℕ} c 1 0) h.0 in let sum = sum_by-append (λ r. cond (test r) 1 0) (r ∷ []) rs in omega (arith, e, one, sum)

count_talks : (test : Reply → Bool) (base : ℕ) (talks : List Talk) (draws : List Draw)
    → Placed (λ l t. length (of_link l draws) ≤ count_by test t.replies) base talks
    → draws_of base talks draws ≤ count_by test (all_of talks)
count_talks test base [] draws h = le_refl 0
count_talks test base (t ∷ talks) draws h =
    let rest = count_talks test (base + 1) talks draws h.1 in
    let first = h.0 in
    let both = sum_by-append (λ r. cond (test r) 1 0) t.replies (all_of talks) in
    omega (arith, both)

none_of : (link : ℕ) (draws : List Draw) → ((i : ℕ) (d : Draw) → slice_get draws i ≡ Some d → d.link ≢ link)
    → of_link link draws ≡ []
none_of link [] h = refl
none_of link (d ∷ draws) h =
    let other = h 0 d refl in
    let test : (d.link == link) ≡ false = grind (arith, nat_tests) in
    ap (λ (c : Bool). cond c (d ∷ of_link link draws) (of_link link draws)) test
    ∙ none_of link draws (λ i x e. h (suc i) x e)

numbered_long : (link base : ℕ) (asks : List Asked) → length (numbered link base asks) ≡ length asks
numbered_long link base [] = refl
numbered_long link base (q ∷ asks) = ap suc (numbered_long link (base + 1) asks)

any_in : (test : Reply → Bool) (rs : List Reply) (i : ℕ) (r : Reply) → slice_get rs i ≡ Some r → test r ≡ true
    → list_any test rs ≡ true
any_in test [] i r e h = absurd (cc)
any_in test (x ∷ rs) zero r e h = ap (λ c. c || list_any test rs) (ap test (some_is e) ∙ h)
any_in test (x ∷ rs) (suc i) r e h = also (test x) (any_in test rs i r e h)
  where
    also : (a : Bool) {b : Bool} → b ≡ true → (a || b) ≡ true
    also true e = refl
    also false e = e

any_left : (test : Reply → Bool) (xs ys : List Reply) → list_any test xs ≡ true → list_any test (xs ++ ys) ≡ true
any_left test [] ys h = absurd (cc)
any_left test (x ∷ xs) ys h = go (any_left test xs ys) (test x) h
  where
    go : (list_any test xs ≡ true → list_any test (xs ++ ys) ≡ true) → (a : Bool) → (a || list_any test xs) ≡ true
        → (a || list_any test (xs ++ ys)) ≡ true
    go rest true h = refl
    go rest false h = rest h

any_right : (test : Reply → Bool) (xs ys : List Reply) → list_any test ys ≡ true → list_any test (xs ++ ys) ≡ true
any_right test [] ys h = h
any_right test (x ∷ xs) ys h = go (test x) (any_right test xs ys h)
  where
    go : (a : Bool) → list_any test (xs ++ ys) ≡ true → (a || list_any test (xs ++ ys)) ≡ true
    go true e = refl
    go false e = e

any_talk : (test : Reply → Bool) (talks : List Talk) (l : ℕ) (t : Talk) → slice_get talks l ≡ Some t
    → list_any test t.replies ≡ true → list_any test (all_of talks) ≡ true
any_talk test [] l t e h = absurd (cc)
any_talk test (x ∷ talks) zero t e h = any_left test x.replies (all_of talks) (ap (λ (z : Talk). list_any test z.replies) (some_is e) ∙ h)
any_talk test (x ∷ talks) (suc l) t e h = any_right test x.replies (all_of talks) (any_talk test talks l t e h)

whole_long : (links : List LinkRun) (talks : List Talk) → AllZip WholeTalk links talks
    → AllByRecursion (λ t. length t.replies ≡ length t.asks) talks
whole_long [] [] h = tt
whole_long [] (t ∷ talks) h = absurd h
whole_long (l ∷ links) [] h = absurd h
whole_long (l ∷ links) (t ∷ talks) h = (h.0.each, whole_long links talks h.1)

module _ (b : StoreBasis) (history : List StoreEntry) (trail : List (ℕ × StoreTold)) (run : Run) (talks : List Talk) (acc : Accounted b history trail run talks) (tells : b.told ≡ true) where
  abbrev pub asked_all : List Ask
  asked_all = asked_in (says history)

  abbrev pub AllReplied : Type 0
  AllReplied = AllByRecursion (λ t. length t.replies ≡ length t.asks) talks

  -- the reply to a put of the history
  pub record PutReply (p : ℕ) (r : Record) : Type 0 where
    pub talk : Talk
    pub there : slice_get talks r.link ≡ Some talk
    pub reply : Reply
    pub here : slice_get talk.replies r.index ≡ Some reply
    pub told : storeresult b.limit b.records (struck_at trail) asked_all p (Puts r) ≡ Told reply.answer

  put_reply : AllReplied → (p : ℕ) (r : Record) → slice_get asked_all p ≡ Some (Puts r) → PutReply p r
  put_reply long place r here =
      let x = entry_at history place (Puts r) here in
      let q = acc.puts place x.0 r x.1 x.2 in
      let t = q.0 in
      let even : length t.replies ≡ length t.asks = all_at (λ t. length t.replies ≡ length t.asks) talks r.link t long q.1 in
      let inside = get_within t.asks r.index (Request_of (Put r.key r.value)) q.2 in
      let s = get_some t.replies r.index (omega (arith, even)) in
      let k = acc.replied r.link r.index t s.0 q.1 s.1 in
      let request : k.0 ≡ Request_of (Put r.key r.value) = some_is (sym k.1 ∙ q.2) in
      let a : IsAccounted b history trail (Request_of (Put r.key r.value)) s.0 (Some (Puts r)) = subst (λ z. IsAccounted b history trail z s.0 (ask_of r.link r.index z)) request k.3 in
      let p = placing b history trail tells s.0 (Puts r) a.0 a.1 in
      let same : p.place ≡ place = acc.once p.place place p.entry x.0 r r p.here x.1 p.is x.2 refl refl in
      record {
        talk = t;
        there = q.1;
        reply = s.0;
        here = s.1;
        told = ap (λ m. storeresult b.limit b.records (struck_at trail) asked_all m (Puts r)) (sym same) ∙ p.said;
      }

  -- a put that was told to be stored is a stored reply
  put_replied : AllReplied → (v : ℕ) (r : Record) → IsStoredAs b.limit (struck_at trail) b.records asked_all v r
      → list_any (stored_as v) (all_of talks) ≡ true
  put_replied long v r h =
      let k = put_reply long h.place r h.here in
      let answer : k.reply.answer ≡ Stored v r.value = told_is (sym k.told ∙ h.told) in
      let itself : (v == v) ≡ true = grind (arith, nat_tests) in
      let stored : stored_as v k.reply ≡ true = ap (stores_as v) answer ∙ itself in
      any_talk (stored_as v) talks r.link k.talk k.there (any_in (stored_as v) k.talk.replies r.index k.reply k.here stored)
    where
      told_is : {x y : Answer} → Told x ≡ Told y → x ≡ y
      told_is e = cc

  -- no failed append is left
  pub nothing_left : AllReplied → (extra : List Record)
      → IsLeft (standing_from b.limit (struck_at trail) 0 (opened b.records) asked_all).fault asked_all extra
      → extra ≡ []
  nothing_left long extra (inl none) = none
  nothing_left long extra (inr one) =
      let r : Record = one.1 in
      let f = fault_said b.limit (struck_at trail) 0 one.0 (opened b.records) asked_all refl one.2 in
      let at : one.0 ≡ f.index = omega (arith, f.at) in
      let ask : f.ask ≡ Puts r = some_is (sym f.here ∙ ap (slice_get asked_all) (sym at) ∙ one.3) in
      let k = put_reply long one.0 r one.3 in
      let fault : storeresult b.limit b.records (struck_at trail) asked_all one.0 (Puts r) ≡ Fault =
      ap (λ m. (said_at b.limit one.0 (standing_from b.limit (struck_at trail) 0 (opened b.records) (take m asked_all)) (Puts r) (struck_at trail one.0)).0) at
      ∙ ap (λ (x : Ask). (said_at b.limit one.0 (standing_from b.limit (struck_at trail) 0 (opened b.records) (take f.index asked_all)) x (struck_at trail one.0)).0) (sym ask) ∙ f.said in
      absurd (never (sym k.told ∙ fault))
    where
      never : {x : Answer} → Told x ≡ Fault → ⊥
      never e = absurd (cc)

  versions_stand : AllReplied → (v : ℕ) (rs : List Record)
      → StoredFrom b.limit (struck_at trail) b.records asked_all v rs
      → Placed (λ v r. IsTrue (list_any (stored_as v) (all_of talks))) v rs
  versions_stand long v [] h = tt
  versions_stand long v (r ∷ rs) h = (put_replied long v r h.0, versions_stand long (v + 1) rs h.1)

  pub stored : AllReplied → (logged : LeftInLog b (says history) trail run.records) → logged.extra ≡ []
      → Placed (λ v r. IsTrue (list_any (stored_as v) (all_of talks))) (run.old + 1) (drop run.old run.records)
  stored long logged none =
      let added : List Record = stored_from b.limit (struck_at trail) 0 (opened b.records) asked_all in
      let new : drop run.old run.records ≡ added =
      ap (λ n. drop n run.records) (sym acc.old)
      ∙ ap (drop (length b.records)) (logged.all ∙ ap (λ (s : Standing). s.records ++ logged.extra) (end_is b (says history) trail) ∙ ap (λ (l : List Record). (standing_from b.limit (struck_at trail) 0 (opened b.records) asked_all).records ++ l) none ∙ append-nil _ ∙ history_adds b.limit (struck_at trail) 0 (opened b.records) asked_all)
      ∙ drop-append_seam b.records added in
      subst (λ n. Placed (λ v r. IsTrue (list_any (stored_as v) (all_of talks))) (n + 1) (drop run.old run.records)) acc.old
      (subst (Placed (λ v r. IsTrue (list_any (stored_as v) (all_of talks))) (length b.records + 1)) (sym new) (versions_stand long (length b.records + 1) added (all_stored b.limit (struck_at trail) b.records asked_all)))

module _ (b : StoreBasis) (end : Trail StoreAsk StoreTold) (history : List StoreEntry) (workers : List Worker) (links : List Link) (run : Run) (talks : List Talk) (ends : StoreEnds b end history workers links run talks) where
  -- of each link no more numbers were drawn by a worker than replies of that worker stand there
  few : AllByRecursion (λ k. length k.drawn ≡ length k.replies) links → (n : ℕ) (w : Worker)
      → slice_get workers n ≡ Some w → (r : Reply) → r.worker ≡ n → (l : ℕ) (t : Talk) → slice_get talks l ≡ Some t
      → length (of_link l w.draws) ≤ count_by (same_worker r) t.replies
  few even n w here r is l t e =
      let z = zip_other IsTalkOf links talks l t ends.talked e in
      let k = z.0 in
      let s = speaking b end history workers links run talks ends l k z.1 in
      elim (cases_eq k.worker n) [
        | inl same ↦
            let worker : s.worker ≡ w = some_is (sym s.here ∙ ap (slice_get workers) same ∙ here) in
            let drawn : length (of_link l w.draws) ≡ length k.drawn = ap (λ (x : Worker). length (of_link l x.draws)) (sym worker) ∙ ap length s.keeps.own ∙ numbered_long l 0 k.drawn in
            let long : length k.drawn ≡ length k.replies = all_at (λ k. length k.drawn ≡ length k.replies) links l k even z.1 in
            let replies : t.replies ≡ k.replies = z.2.0 in
            let counted : count_by (same_worker r) k.replies ≡ length k.replies = count_all (same_worker r) k.replies (all_by (λ x. same_worker r x ≡ true) k.replies
            (λ i x d. (let h = replies_at b end history workers links run talks ends s.worker k.worker l 0 0 k.drawn k.replies i x s.keeps.replied d in let number : x.worker ≡ r.worker = h.2 ∙ same ∙ sym is in same_number x.worker r.worker number))) in
            equal (drawn ∙ long ∙ sym counted ∙ ap (count_by (same_worker r)) (sym replies))
        | inr differ ↦
            let zero_more : 0 + n ≡ n = omega arith in
            let nothing : of_link l w.draws ≡ [] = none_of l w.draws (λ i d f same.
            (let own = all_at (IsForOwn links (0 + n)) w.draws i d (placed_at (λ n w. AllByRecursion (IsForOwn links n) w.draws) 0 workers n w ends.own here) f in
            let of : own.0 ≡ k = some_is (sym own.1 ∙ ap (slice_get links) same ∙ z.1) in
            differ (ap (λ (x : Link). x.worker) (sym of) ∙ own.2 ∙ zero_more))) in
            nothing_below (ap length nothing)
      ]
    where
      equal : {x y : ℕ} → x ≡ y → x ≤ y
      equal e = omega (arith, e)

      nothing_below : {x y : ℕ} → x ≡ 0 → x ≤ y
      nothing_below e = omega (arith, e)

      same_number : (x y : ℕ) → x ≡ y → (x == y) ≡ true
      same_number x y e = grind (arith, nat_tests)

  zip_length : {X Y : Type 0} (R : X → Y → Type 0) (xs : List X) (ys : List Y) → AllZip R xs ys
      → length xs ≡ length ys
  zip_length R [] [] h = refl
  zip_length R [] (y ∷ ys) h = absurd h
  zip_length R (x ∷ xs) [] h = absurd h
  zip_length R (x ∷ xs) (y ∷ ys) h = ap suc (zip_length R xs ys h.1)

  numbers : AllByRecursion (λ k. length k.drawn ≡ length k.replies) links
      → AllByRecursion (λ r. r.sequence ≤ count_by (same_worker r) (all_of talks)) (all_of talks)
  numbers even = all_flat (λ r. r.sequence ≤ count_by (same_worker r) (all_of talks)) (λ t. t.replies) talks
      (all_by (λ t. AllByRecursion (λ r. r.sequence ≤ count_by (same_worker r) (all_of talks)) t.replies) talks (λ l t e. all_by (λ r. r.sequence ≤ count_by (same_worker r) (all_of talks)) t.replies (λ i r d. (
      let z = zip_other IsTalkOf links talks l t ends.talked e in
      let k = z.0 in
      let s = speaking b end history workers links run talks ends l k z.1 in
      let h = replies_at b end history workers links run talks ends s.worker k.worker l 0 0 k.drawn k.replies i r s.keeps.replied (ap (λ (x : List Reply). slice_get x i) (sym z.2.0) ∙ d) in
      let inside = get_within s.worker.draws (r.sequence - 1) (record { link = l; index = 0 + i; request = h.0 }) h.4.1 in
      let same_length : length talks ≡ length links = sym (zip_length IsTalkOf links talks ends.talked) in
      let zero_more : 0 + k.worker ≡ k.worker = omega arith in
      let own = placed_at (λ n w. AllByRecursion (IsForOwn links n) w.draws) 0 workers k.worker s.worker ends.own s.here in
      let in_range : AllByRecursion (λ x. x.link < length talks) s.worker.draws = all_by (λ x. x.link < length talks) s.worker.draws (λ j x f. (let o = all_at (IsForOwn links (0 + k.worker)) s.worker.draws j x own f in let g = get_within links x.link o.0 o.1 in omega (arith, same_length))) in
      let most = all_counted talks s.worker.draws in_range in
      let fits = count_talks (same_worker r) 0 talks s.worker.draws (placed_by (λ l t. length (of_link l s.worker.draws) ≤ count_by (same_worker r) t.replies) 0 talks (λ m u f. (let n : m ≡ 0 + m = omega arith in subst (λ y. length (of_link y s.worker.draws) ≤ count_by (same_worker r) u.replies) n (few even k.worker s.worker s.here r h.2 m u f)))) in
      let m = all_counted talks s.worker.draws in_range in
      chain inside most fits))))
    where
      chain : {s n c d : ℕ} → s - 1 < n → n ≤ c → c ≤ d → s ≤ d
      chain a e f = omega arith

  pub whole : b.told ≡ true → AllByRecursion (λ k. length k.drawn ≡ length k.replies) links
      → AllZip WholeTalk run.links talks
      → Whole run
  whole told even read =
      let acc = accounted b end history workers links run talks ends in
      let long = whole_long run.links talks read in
      let left = subst (λ (s : Standing). IsLeft s.fault (asked_in (says history)) ends.logged.extra) (end_is b (says history) end.told) ends.logged.left in
      record {
        talks = talks;
        read = read;
        consistent = consistent b history end.told run talks acc told;
        recorded = recorded b history end.told run talks acc;
        numbered = numbers even;
        stored = stored b history end.told run talks acc told long ends.logged (nothing_left b history end.told run talks acc told long ends.logged.extra left);
      }
