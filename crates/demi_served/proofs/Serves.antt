-- Where a history accounts for all replies and records of a session, they are consistent and recorded.
use Rattle.std.proofs.Common.{◌≡◌, ◌≢◌, ℕ, zero, suc, ◌+◌, ◌≤◌, ◌<◌, Bool, true, List, [], ◌∷◌, ◌++◌, length, drop, Option, None, Some, refl, arith, ◌∙◌, ap, sym, subst, append_assoc, inl, inr}
use Rattle.std.specs.Prelude.{slice_get, IfSome, IsTrue}
use Rattle.std.specs.List.{AllByRecursion}
use Rattle.std.proofs.lemmas.Bool.{cases_lt}
use Rattle.std.proofs.Math.Seq.{drop-append_seam}
use Rattle.demi_port.specs.Seen.{says}
use Rattle.demi_spec.specs.Request.{Put, Get, End}
use Rattle.demi_spec.specs.Input.{Asked, Request_of, Refused_end}
use Rattle.demi_spec.specs.Reply.{Answer, Reply}
use Rattle.demi_spec.specs.Record.{Record}
use Rattle.demi_store.specs.History.{Told, Standing, opened, struck_at}
use Rattle.demi_store.specs.Laws.{StoreBasis}
use Rattle.demi_store.specs.declared.ask.StoreAsk.{StoreAsk}
use Rattle.demi_store.specs.declared.told.StoreTold.{StoreTold}
use Rattle.demi_served.specs.Talks.{Run, Talk}
use Rattle.demi_served.specs.Answers.{Answers, AnswersEach, version_of, is_stored}
use Rattle.demi_served.specs.Served.{Pairwise, NeverFalls, InStep, Versions, Consistent, Recorded, IsAsked, OfTwoRequests}
use Rattle.demi_served.specs.Asking.{Ask, Puts, asks_for, ask_of, plain_answer}
use Rattle.demi_served.specs.Accounts.{StoreEntry, asks_at, asked_in, IsAnsweredAt, IsAccounted, IsNoStop, IsNext, IsLeft, Accounted}
use Rattle.demi_served.proofs.Lists.{some_is, all_by, all_at, placed_by, pairwise_by, pairwise_at, all_flat, pairwise_flat}
use Rattle.demi_served.proofs.Folds.{standing_from, storeresult, stored_from, history_adds, result_is, end_is}
use Rattle.demi_served.proofs.Places.{Telling, answers_by_place, versions_by_place}
use Rattle.demi_served.proofs.Steady.{exact}
use Rattle.demi_served.proofs.Comes.{FromPuts, records_come}

-- what stands at a place, of entries, of what they say and of what is asked
pub says_at : (history : List StoreEntry) (p : ℕ) (x : StoreEntry) → slice_get history p ≡ Some x
    → slice_get (says history) p ≡ Some x.1.1
says_at [] p x e = absurd (cc)
says_at (y ∷ history) zero x e = ap (λ (z : StoreEntry). Some z.1.1) (some_is e)
says_at (y ∷ history) (suc p) x e = says_at history p x e

pub asked_at : (history : List StoreAsk) (p : ℕ) (x : StoreAsk) → slice_get history p ≡ Some x
    → slice_get (asked_in history) p ≡ Some (asks_for x.op)
asked_at [] p x e = absurd (cc)
asked_at (y ∷ history) zero x e = ap (λ (z : StoreAsk). Some (asks_for z.op)) (some_is e)
asked_at (y ∷ history) (suc p) x e = asked_at history p x e

pub entry_at : (history : List StoreEntry) (p : ℕ) (a : Ask) → slice_get (asked_in (says history)) p ≡ Some a
    → (x : StoreEntry) × (slice_get history p ≡ Some x) × (asks_at x ≡ a)
entry_at [] p a e = absurd (cc)
entry_at (y ∷ history) zero a e = (y, refl, some_is e)
entry_at (y ∷ history) (suc p) a e = entry_at history p a e

pub is_request : (link index : ℕ) (q : Asked) (ask : Ask) → ask_of link index q ≡ Some ask → IsNoStop ask
is_request link index (Request_of (Put key value)) ask e = subst IsNoStop (some_is e) tt
is_request link index (Request_of (Get key)) ask e = subst IsNoStop (some_is e) tt
is_request link index (Request_of End) ask e = absurd (cc)
is_request link index (Refused_end code) ask e = absurd (cc)

module _ (b : StoreBasis) (history : List StoreEntry) (trail : List (ℕ × StoreTold)) where
  abbrev pub asks : List Ask
  asks = asked_in (says history)

  -- where a reply was asked, and what is said there
  pub record Placing (r : Reply) (ask : Ask) : Type 0 where
    pub place : ℕ
    pub entry : StoreEntry
    pub here : slice_get history place ≡ Some entry
    pub worker : entry.0 ≡ r.worker
    pub sequence : entry.1.1.sequence ≡ r.sequence
    pub is : asks_at entry ≡ ask
    pub asked : slice_get asks place ≡ Some ask
    pub said : storeresult b.limit b.records (struck_at trail) asks place ask ≡ Told r.answer

  pub placing : b.told ≡ true → (r : Reply) (ask : Ask) (p : ℕ) → IsAnsweredAt b history trail ask r p → Placing r ask
  placing told r ask p h =
      let there = says_at history p h.entry h.here in
      let same : h.said.1.asked ≡ h.entry.1.1 = some_is (sym h.said.1.here ∙ there) in
      record {
        place = p;
        entry = h.entry;
        here = h.here;
        worker = h.worker;
        sequence = h.sequence;
        is = h.asks;
        asked = asked_at (says history) p h.entry.1.1 there ∙ ap Some h.asks;
        said = ap (storeresult b.limit b.records (struck_at trail) asks p) (sym h.asks ∙ ap (λ (s : StoreAsk). asks_for s.op) (sym same)) ∙ sym (result_is b (says history) trail p h.said.1.asked) ∙ h.said.1.result ∙ ap Told (exact b.told h.said.0 r.answer told h.said.2);
      }

  pub telling : (link index : ℕ) (q : Asked) (r : Reply) (ask : Ask) → ask_of link index q ≡ Some ask
      → (p : Placing r ask) → Telling b.limit (struck_at trail) b.records asks p.place link index q r.answer
  telling link index q r ask e p = record { ask = ask; of = e; asked = p.asked; said = p.said }

  module _ (run : Run) (talks : List Talk) (acc : Accounted b history trail run talks) where
    all_records : run.records ≡ (standing_from b.limit (struck_at trail) 0 (opened b.records) asks).records ++ acc.logged.extra
    all_records = acc.logged.all ∙ ap (λ (s : Standing). s.records ++ acc.logged.extra) (end_is b (says history) trail)

    -- the new records
    new_records : drop run.old run.records ≡ stored_from b.limit (struck_at trail) 0
        (opened b.records) asks ++ acc.logged.extra
    new_records =
        let stored : List Record = stored_from b.limit (struck_at trail) 0 (opened b.records) asks in
        ap (λ n. drop n run.records) (sym acc.old)
        ∙ ap (drop (length b.records)) (all_records ∙ ap (λ (l : List Record). l ++ acc.logged.extra) (history_adds b.limit (struck_at trail) 0 (opened b.records) asks) ∙ append_assoc b.records stored acc.logged.extra)
        ∙ drop-append_seam b.records (stored ++ acc.logged.extra)

    put_asked : (p : ℕ) (r : Record) → slice_get asks p ≡ Some (Puts r) → IsAsked talks r
    put_asked p r e = let x = entry_at history p (Puts r) e in acc.puts p x.0 r x.1 x.2

    all_asked : (n m : ℕ) (records : List Record) → FromPuts asks n records m → AllByRecursion (IsAsked talks) records
    all_asked n m [] h = tt
    all_asked n m (r ∷ records) h = (put_asked h.0 r h.2, all_asked (h.0 + 1) m records h.3)

    all_apart : (p n m : ℕ) (r : Record) (records : List Record) → slice_get asks p ≡ Some (Puts r) → p < n
        → FromPuts asks n records m → AllByRecursion (OfTwoRequests r) records
    all_apart p n m r [] e less h = tt
    all_apart p n m r (s ∷ records) e less h =
        (apart, all_apart p (h.0 + 1) m r records e (let le = h.1 in omega arith) h.3)
      where
        apart : OfTwoRequests r s
        apart links indexes =
            let x = entry_at history p (Puts r) e in
            let y = entry_at history h.0 (Puts s) h.2 in
            let same : p ≡ h.0 = acc.once p h.0 x.0 y.0 r s x.1 y.1 x.2 y.2 links indexes in
            let le = h.1 in absurd (omega (arith, same))

    once : (n m : ℕ) (records : List Record) → FromPuts asks n records m → Pairwise OfTwoRequests records
    once n m [] h = tt
    once n m (r ∷ records) h = (all_apart h.0 (h.0 + 1) m r records h.2 (omega arith) h.3, once (h.0 + 1) m records h.3)

    pub recorded : Recorded run talks
    recorded =
        let left = subst (λ (s : Standing). IsLeft s.fault asks acc.logged.extra) (end_is b (says history) trail) acc.logged.left in
        let come = records_come b.limit (struck_at trail) b.records asks acc.logged.extra left in
        record {
          asked = subst (AllByRecursion (IsAsked talks)) (sym new_records) (all_asked 0 come.0 _ come.1);
          once = subst (Pairwise OfTwoRequests) (sym new_records) (once 0 come.0 _ come.1);
        }

  module _ (run : Run) (talks : List Talk) (acc : Accounted b history trail run talks) (told : b.told ≡ true) where
    -- each reply answers its request
    plain_answers : (link index : ℕ) (q : Asked) (r : Reply) → ask_of link index q ≡ None → r.answer ≡ plain_answer q
        → Answers run link index q r.answer
    plain_answers link index (Request_of (Put key value)) r e h = absurd (cc)
    plain_answers link index (Request_of (Get key)) r e h = absurd (cc)
    plain_answers link index (Request_of End) r e h = subst (Answers run link index (Request_of End)) (sym h) (record { said = refl; names = tt; stores = λ t. tt })
    plain_answers link index (Refused_end code) r e h = subst (Answers run link index (Refused_end code)) (sym h) (record { said = refl; names = tt; stores = λ t. tt })

    answered : (link index : ℕ) (q : Asked) (r : Reply) → IsAccounted b history trail q r (ask_of link index q)
        → Answers run link index q r.answer
    answered link index q r h = go (ask_of link index q) refl h
      where
        go : (o : Option Ask) → ask_of link index q ≡ o → IsAccounted b history trail q r o
            → Answers run link index q r.answer
        go None e h = plain_answers link index q r e h
        go (Some ask) e h =
            let p = placing told r ask h.0 h.1 in
            answers_by_place b.limit (struck_at trail) b.records asks run acc.logged.extra p.place link index q r.answer acc.old acc.limit (all_records run talks acc) (telling link index q r ask e p)

    answers_by : (link base : ℕ) (qs : List Asked) (rs : List Reply)
        → ((i : ℕ) (r : Reply) → slice_get rs i ≡ Some r → (q : Asked) × (slice_get qs i ≡ Some q) × Answers run link (base + i) q r.answer) → AnswersEach run link base qs rs
    answers_by link base qs [] h = tt
    answers_by link base [] (r ∷ rs) h = let k = h 0 r refl in absurd (let e = k.1 in cc)
    answers_by link base (q ∷ qs) (r ∷ rs) h =
        let k = h 0 r refl in
        let n : base + 0 ≡ base = omega arith in (
          subst (λ m. Answers run link m q r.answer) n (subst (λ x. Answers run link (base + 0) x r.answer) (sym (some_is k.1)) k.2),
          answers_by link (base + 1) qs rs (λ i s e. (let j = h (suc i) s e in let m : base + suc i ≡ base + 1 + i = omega arith in (j.0, j.1, subst (λ x. Answers run link x j.0 s.answer) m j.2))),
        )

    -- a reply of a later number of the same worker does not fall
    no_version : (q : Asked) (a : Answer) → a ≡ plain_answer q → version_of a ≡ None
    no_version (Refused_end code) a e = ap version_of e
    no_version (Request_of request) a e = ap version_of e

    abbrev pub Rises : Reply → Reply → Type 0
    Rises r s = Versions (λ v w. (v ≤ w) × (IsTrue (is_stored s.answer) → v < w)) r s

    first_none : (r s : Reply) → version_of r.answer ≡ None → Rises r s
    first_none r s e = subst (λ (o : Option ℕ). IfSome o (λ v. IfSome (version_of s.answer) (λ w. (v ≤ w) × (IsTrue (is_stored s.answer) → v < w)))) (sym e) tt

    second_none : (r s : Reply) → version_of s.answer ≡ None → Rises r s
    second_none r s e = subst (λ (o : Option ℕ). IfSome (version_of r.answer) (λ v. IfSome o (λ w. (v ≤ w) × (IsTrue (is_stored s.answer) → v < w)))) (sym e) (nothing (version_of r.answer))
      where
        nothing : (o : Option ℕ) → IfSome o (λ v. IfSome None (λ w. (v ≤ w) × (IsTrue (is_stored s.answer) → v < w)))
        nothing None = tt
        nothing (Some v) = tt

    in_order : (l i m j : ℕ) (q x : Asked) (r s : Reply) (a c : Ask) → ask_of l i q ≡ Some a → ask_of m j x ≡ Some c
        → Placing r a → Placing s c → r.worker ≡ s.worker → r.sequence < s.sequence → Rises r s
    in_order l i m j q x r s a c of_a of_c p o same less = elim (cases_lt p.place o.place) [
      | inl before ↦ versions_by_place b.limit (struck_at trail) b.records asks p.place o.place l i m j q x r.answer s.answer before (telling l i q r a of_a p) (telling m j x s c of_c o)
      | inr not_before ↦ elim (cases_lt o.place p.place) [
        | inl after ↦
            let workers : o.entry.0 ≡ p.entry.0 = o.worker ∙ sym same ∙ sym p.worker in
            let falls = acc.rises o.place p.place o.entry p.entry after o.here p.here workers (subst IsNoStop (sym o.is) (is_request m j x c of_c)) (subst IsNoStop (sym p.is) (is_request l i q a of_a)) in
            absurd (omega (arith, p.sequence, o.sequence))
        | inr not_after ↦
            let places : p.place ≡ o.place = omega arith in
            let entries : p.entry ≡ o.entry = some_is (sym p.here ∙ ap (slice_get history) places ∙ o.here) in
            let numbers : p.entry.1.1.sequence ≡ o.entry.1.1.sequence = ap (λ (x : StoreEntry). x.1.1.sequence) entries in
            absurd (omega (arith, p.sequence, o.sequence, numbers))
      ]
    ]

    rises : (l i m j : ℕ) (q x : Asked) (r s : Reply) → IsAccounted b history trail q r (ask_of l i q)
        → IsAccounted b history trail x s (ask_of m j x) → r.worker ≡ s.worker → r.sequence < s.sequence → Rises r s
    rises l i m j q x r s h k same less = go (ask_of l i q) (ask_of m j x) refl refl h k
      where
        go : (a c : Option Ask) → ask_of l i q ≡ a → ask_of m j x ≡ c → IsAccounted b history trail q r a
            → IsAccounted b history trail x s c → Rises r s
        go None c ea ec h k = first_none r s (no_version q r.answer h)
        go (Some a) None ea ec h k = second_none r s (no_version x s.answer k)
        go (Some a) (Some c) ea ec h k = in_order l i m j q x r s a c ea ec (placing told r a h.0 h.1) (placing told s c k.0 k.1) same less

    weaker : (strict : Bool) (o p : Option ℕ) → IfSome o (λ v. IfSome p (λ w. (v ≤ w) × (IsTrue strict → v < w)))
        → IfSome o (λ v. IfSome p (λ w. v ≤ w))
    weaker strict None p h = tt
    weaker strict (Some v) None h = tt
    weaker strict (Some v) (Some w) h = h.0

    turned : (strict : Bool) (o p : Option ℕ) → IfSome o (λ v. IfSome p (λ w. (v ≤ w) × (IsTrue strict → v < w)))
        → IfSome p (λ w. IfSome o (λ v. v ≤ w))
    turned strict None None h = tt
    turned strict None (Some w) h = tt
    turned strict (Some v) None h = tt
    turned strict (Some v) (Some w) h = h.0

    -- replies of two links, or two of one link
    two : (l i m j : ℕ) (q x : Asked) (r s : Reply) → IsAccounted b history trail q r (ask_of l i q)
        → IsAccounted b history trail x s (ask_of m j x) → (r.worker ≡ s.worker → r.sequence ≢ s.sequence)
        → InStep r s
    two l i m j q x r s h k differ = record {
      differ = differ;
      rises = λ same less. weaker (is_stored s.answer) (version_of r.answer) (version_of s.answer) (rises l i m j q x r s h k same less);
      falls = λ same less. turned (is_stored r.answer) (version_of s.answer) (version_of r.answer) (rises m j l i x q s r k h (sym same) less);
    }

    next : (link i j : ℕ) (t : Talk) (r s : Reply) → i < j → slice_get talks link ≡ Some t
        → slice_get t.replies i ≡ Some r → slice_get t.replies j ≡ Some s → IsNext r s
    next link i j t r s less e d f = pairwise_at IsNext t.replies i j r s (all_at (λ t. Pairwise IsNext t.replies) talks link t acc.along e) less d f

    pub consistent : Consistent run talks
    consistent = record {
      answers = placed_by (λ link t. AnswersEach run link 0 t.asks t.replies) 0 talks (λ link t e. answers_by (0 + link) 0 t.asks t.replies
          (λ i r d. (let k = acc.replied link i t r e d in let n : i ≡ 0 + i = omega arith in let m : link ≡ 0 + link = omega arith in
          (k.0, k.1, subst (λ z. Answers run z (0 + i) k.0 r.answer) m (subst (λ z. Answers run link z k.0 r.answer) n (answered link i k.0 r k.3))))));
      links = all_by (λ t. Pairwise NeverFalls t.replies) talks (λ link t e. pairwise_by NeverFalls t.replies
          (λ i j r s less d f. (let k = acc.replied link i t r e d in let o = acc.replied link j t s e f in let n = next link i j t r s less e d f in
          rises link i link j k.0 o.0 r s k.3 o.3 n.0 n.1)));
      counted = all_flat (λ r. 1 ≤ r.sequence) (λ t. t.replies) talks (all_by (λ t. AllByRecursion (λ r. 1 ≤ r.sequence) t.replies) talks
          (λ link t e. all_by (λ r. 1 ≤ r.sequence) t.replies (λ i r d. (acc.replied link i t r e d).2)));
      workers = pairwise_flat InStep (λ t. t.replies) talks
          (all_by (λ t. Pairwise InStep t.replies) talks (λ link t e. pairwise_by InStep t.replies
          (λ i j r s less d f. (let k = acc.replied link i t r e d in let o = acc.replied link j t s e f in let n = next link i j t r s less e d f in
          two link i link j k.0 o.0 r s k.3 o.3 (λ same equal. (let low = n.1 in absurd (omega (arith, equal))))))))
          (pairwise_by (λ t u. AllByRecursion (λ r. AllByRecursion (InStep r) u.replies) t.replies) talks
          (λ link other t u less e f. all_by (λ r. AllByRecursion (InStep r) u.replies) t.replies (λ i r d. all_by (InStep r) u.replies
          (λ j s g. (let k = acc.replied link i t r e d in let o = acc.replied other j u s f g in
          two link i other j k.0 o.0 r s k.3 o.3 (acc.apart link other i j t u r s (λ same. absurd (omega (arith, same))) e f d g))))));
    }
