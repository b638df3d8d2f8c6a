-- Where the ports are closed, what workers and links kept accounts for the session.
use Rattle.std.proofs.Common.{◌≡◌, ℕ, zero, suc, ◌+◌, ◌-◌, ◌≤◌, ◌<◌, Bool, true, false, List, [], ◌∷◌, length, Option, None, Some, refl, arith, ◌∙◌, ap, sym, subst, cond, inl, inr}
use Rattle.std.specs.Prelude.{slice_get, ◌==◌}
use Rattle.std.specs.List.{AllByRecursion, AllZip}
use Rattle.std.proofs.lemmas.Bool.Decides.{nat_tests}
use Rattle.std.proofs.lemmas.Bool.{cases_lt}
use Rattle.demi_port.specs.Seen.{says}
use Rattle.demi_port_core.specs.History.{of_pass, Among}
use Rattle.demi_port_core.specs.Trails.{Behind}
use Rattle.demi_port_core.specs.declared.trail.Trail.{Trail}
use Rattle.demi_spec.specs.Request.{Put, Get, End}
use Rattle.demi_spec.specs.Input.{Asked, Request_of, Refused_end}
use Rattle.demi_spec.specs.Record.{Record}
use Rattle.demi_spec.specs.Reply.{Reply}
use Rattle.demi_store.specs.Laws.{StoreBasis}
use Rattle.demi_store.specs.declared.ask.StoreAsk.{StoreAsk}
use Rattle.demi_store.specs.declared.told.StoreTold.{StoreTold}
use Rattle.demi_served.specs.Talks.{Run, Talk}
use Rattle.demi_served.specs.Served.{Pairwise, IsAsked}
use Rattle.demi_served.specs.Asking.{Ask, Puts, ask_of}
use Rattle.demi_served.specs.Accounts.{StoreEntry, asks_at, IsAccounted, IsNoStop, IsLater, IsNext, Accounted}
use Rattle.demi_served.specs.Keeps.{Draw, Worker, IsDrawn, IsOfDraw, IsFurther, IsLaterAsk, WorkerKeeps, Link, LinkKeeps, of_link, numbered, IsReplied, RepliesKeep}
use Rattle.demi_served.specs.Ends.{IsForOwn, IsKeptBy, IsTalkOf, StoreEnds}
use Rattle.demi_served.proofs.Lists.{some_is, all_at, all_by, placed_at, pairwise_at, get_left}
use Rattle.demi_served.proofs.Steady.{closed_told}
use Rattle.demi_served.proofs.Entries.{get_elem, entry_of, all_of_pass, pairs_of_pass}

-- within the list there is an element
pub get_some : {X : Type 0} (xs : List X) (i : ℕ) → i < length xs → (x : X) × (slice_get xs i ≡ Some x)
get_some [] i less = absurd (omega arith)
get_some (x ∷ xs) zero less = (x, refl)
get_some (x ∷ xs) (suc i) less = get_some xs i (omega arith)

pub zip_at : {X Y : Type 0} (R : X → Y → Type 0) (xs : List X) (ys : List Y) (i : ℕ) (x : X) → AllZip R xs ys
    → slice_get xs i ≡ Some x → (y : Y) × (slice_get ys i ≡ Some y) × R x y
zip_at R [] ys i x h e = absurd (cc)
zip_at R (z ∷ xs) [] i x h e = absurd h
zip_at R (z ∷ xs) (y ∷ ys) zero x h e = (y, refl, subst (λ w. R w y) (some_is e) h.0)
zip_at R (z ∷ xs) (y ∷ ys) (suc i) x h e = zip_at R xs ys i x h.1 e

pub zip_other : {X Y : Type 0} (R : X → Y → Type 0) (xs : List X) (ys : List Y) (i : ℕ) (y : Y) → AllZip R xs ys
    → slice_get ys i ≡ Some y → (x : X) × (slice_get xs i ≡ Some x) × R x y
zip_other R xs [] i y h e = absurd (cc)
zip_other R [] (z ∷ ys) i y h e = absurd h
zip_other R (x ∷ xs) (z ∷ ys) zero y h e = (x, refl, subst (R x) (some_is e) h.0)
zip_other R (x ∷ xs) (z ∷ ys) (suc i) y h e = zip_other R xs ys i y h.1 e

-- a draw of a link is one of its draws
of_link_has : (link : ℕ) (draws : List Draw) (i : ℕ) (d : Draw) → slice_get draws i ≡ Some d → d.link ≡ link
    → (j : ℕ) × (slice_get (of_link link draws) j ≡ Some d)
of_link_has link [] i d e own = absurd (cc)
of_link_has link (x ∷ draws) zero d e own = go (x.link == link) refl
  where
    go : (c : Bool) → (x.link == link) ≡ c
        → (j : ℕ) × (slice_get (cond c (x ∷ of_link link draws) (of_link link draws)) j ≡ Some d)
    go true t = (0, e)
    go false t = let same : x.link ≡ link = ap (λ (z : Draw). z.link) (some_is e)
        ∙ own in absurd (grind (arith, nat_tests))
of_link_has link (x ∷ draws) (suc i) d e own = go (of_link_has link draws i d e own) (x.link == link)
  where
    go : ((j : ℕ) × (slice_get (of_link link draws) j ≡ Some d)) → (c : Bool)
        → (j : ℕ) × (slice_get (cond c (x ∷ of_link link draws) (of_link link draws)) j ≡ Some d)
    go k true = (suc k.0, k.1)
    go k false = k

pub numbered_at : (link base : ℕ) (asks : List Asked) (j : ℕ) (d : Draw)
    → slice_get (numbered link base asks) j ≡ Some d → (d.index ≡ base + j) × (slice_get asks j ≡ Some d.request)
numbered_at link base [] j d e = absurd (cc)
numbered_at link base (q ∷ asks) zero d e =
    let same : record { link = link; index = base; request = q } ≡ d = some_is e in
    let at : base ≡ d.index = ap (λ (z : Draw). z.index) same in
    (omega (arith, at), ap (λ (z : Draw). Some z.request) same)
numbered_at link base (q ∷ asks) (suc j) d e = let k = numbered_at link (base + 1) asks j d e in (omega (arith, k.0), k.1)

-- a draw of a link is for the request of its index
pub drawn_for : (w : Worker) (link : ℕ) (asks : List Asked) (i : ℕ) (d : Draw)
    → of_link link w.draws ≡ numbered link 0 asks → slice_get w.draws i ≡ Some d → d.link ≡ link
    → slice_get asks d.index ≡ Some d.request
drawn_for w link asks i d own e is =
    let j = of_link_has link w.draws i d e is in
    let n = numbered_at link 0 asks j.0 d (sym (ap (λ (l : List Draw). slice_get l j.0) own) ∙ j.1) in
    let at : d.index ≡ j.0 = omega (arith, n.0) in
    ap (slice_get asks) at ∙ n.1

-- a put is asked for a put
put_of : (link index : ℕ) (q : Asked) (r : Record) → ask_of link index q ≡ Some (Puts r)
    → (link ≡ r.link) × (index ≡ r.index) × (q ≡ Request_of (Put r.key r.value))
put_of link index (Request_of (Put k v)) r e =
    let same : record { link = link; index = index; key = k; value = v } ≡ r = puts_is e in
    (ap (λ (z : Record). z.link) same, ap (λ (z : Record). z.index) same, ap (λ (z : Record). Request_of (Put z.key z.value)) same)
  where
    puts_is : {x y : Record} → Some (Puts x) ≡ Some (Puts y) → x ≡ y
    puts_is e = cc
put_of link index (Request_of (Get k)) r e = absurd (cc)
put_of link index (Request_of End) r e = absurd (cc)
put_of link index (Refused_end code) r e = absurd (cc)

-- one draw has one number
pub same_draw : (draws : List Draw) (i j : ℕ) (d e : Draw) → Pairwise IsFurther draws → slice_get draws i ≡ Some d
    → slice_get draws j ≡ Some e → d.link ≡ e.link → d.index ≡ e.index → i ≡ j
same_draw draws i j d e far at to links indexes = elim (cases_lt i j) [
  | inl less ↦ let h = pairwise_at IsFurther draws i j d e far less at to links in absurd (omega (arith, indexes))
  | inr not_less ↦ elim (cases_lt j i) [
    | inl more ↦ let h = pairwise_at IsFurther draws j i e d far more to at (sym links) in absurd (omega (arith, indexes))
    | inr not_more ↦ omega arith
  ]
]

module _ (b : StoreBasis) (end : Trail StoreAsk StoreTold) (history : List StoreEntry) (workers : List Worker) (links : List Link) (run : Run) (talks : List Talk) (ends : StoreEnds b end history workers links run talks) where
  -- the worker of an entry
  pub record Asker (p : ℕ) (x : StoreEntry) : Type 0 where
    pub worker : Worker
    pub here : slice_get workers x.0 ≡ Some worker
    pub drawn : IsOfDraw worker.draws (p, x.1)

  passes_of : (n : ℕ) (w : Worker) → slice_get workers n ≡ Some w
      → (w.submitted ≡ of_pass n 0 history) × Behind end w.known
  passes_of n w e =
      let h = placed_at (λ n w. (w.submitted ≡ of_pass n 0 history) × Behind end w.known) 0 workers n w ends.closed.passes e in
      let same : 0 + n ≡ n = omega arith in
      subst (λ m. (w.submitted ≡ of_pass m 0 history) × Behind end w.known) same h

  pub keeps_of : (n : ℕ) (w : Worker) → slice_get workers n ≡ Some w → WorkerKeeps w
  keeps_of n w e = all_at WorkerKeeps workers n w ends.kept e

  asker : (p : ℕ) (x : StoreEntry) → slice_get history p ≡ Some x → Asker p x
  asker p x e =
      let k = get_some workers x.0 (ends.closed.entries p x (get_elem history p x e)) in
      let pass = passes_of x.0 k.0 k.1 in
      let keeps = keeps_of x.0 k.0 k.1 in
      let zero_more : 0 + p ≡ p = omega arith in
      record {
        worker = k.0;
        here = k.1;
        drawn = subst (λ m. IsOfDraw k.0.draws (m, x.1)) zero_more (all_of_pass (IsOfDraw k.0.draws) x.0 0 history p x (subst (AllByRecursion (IsOfDraw k.0.draws)) pass.0 keeps.asks) e refl);
      }

  -- a later ask of a worker has a greater number
  rises : (p q : ℕ) (x y : StoreEntry) → p < q → slice_get history p ≡ Some x → slice_get history q ≡ Some y
      → x.0 ≡ y.0 → IsLater x.1.1 y.1.1
  rises p q x y less e f same =
      let k = get_some workers x.0 (ends.closed.entries p x (get_elem history p x e)) in
      let pass = passes_of x.0 k.0 k.1 in
      let keeps = keeps_of x.0 k.0 k.1 in
      pairs_of_pass IsLaterAsk x.0 0 history p q x y (subst (Pairwise IsLaterAsk) pass.0 keeps.rises) less e f refl (sym same)

  counted : (p : ℕ) (x : StoreEntry) → slice_get history p ≡ Some x → IsNoStop (asks_at x) → 1 ≤ x.1.1.sequence
  counted p x e is = ((asker p x e).drawn is).1.0

  -- for what a put was asked
  pub record Putting (x : StoreEntry) (r : Record) : Type 0 where
    pub worker : Worker
    pub here : slice_get workers x.0 ≡ Some worker
    pub draw : Draw
    pub drawn : IsDrawn worker.draws x.1.1.sequence draw
    pub link_is : draw.link ≡ r.link
    pub index_is : draw.index ≡ r.index
    pub request : draw.request ≡ Request_of (Put r.key r.value)
    pub of : Link
    pub of_is : slice_get links r.link ≡ Some of
    pub owner : of.worker ≡ x.0

  putting : (p : ℕ) (x : StoreEntry) (r : Record) → slice_get history p ≡ Some x → asks_at x ≡ Puts r → Putting x r
  putting p x r e is =
      let a = asker p x e in
      let d = a.drawn (subst IsNoStop (sym is) tt) in
      let parts = put_of d.0.link d.0.index d.0.request r (d.2 ∙ ap Some is) in
      let zero_more : 0 + x.0 ≡ x.0 = omega arith in
      let own = all_at (IsForOwn links (0 + x.0)) a.worker.draws (x.1.1.sequence - 1) d.0 (placed_at (λ n w. AllByRecursion (IsForOwn links n) w.draws) 0 workers x.0 a.worker ends.own a.here) d.1.1 in
      record {
        worker = a.worker;
        here = a.here;
        draw = d.0;
        drawn = d.1;
        link_is = parts.0;
        index_is = parts.1;
        request = parts.2;
        of = own.0;
        of_is = ap (slice_get links) (sym parts.0) ∙ own.1;
        owner = own.2 ∙ zero_more;
      }

  -- what a link kept, with its worker and its talk
  pub record Speaking (link : ℕ) (k : Link) : Type 0 where
    pub worker : Worker
    pub here : slice_get workers k.worker ≡ Some worker
    pub keeps : LinkKeeps b worker link k

  pub speaking : (link : ℕ) (k : Link) → slice_get links link ≡ Some k → Speaking link k
  speaking link k e =
      let h = placed_at (IsKeptBy b workers) 0 links link k ends.spoke e in
      let zero_more : 0 + link ≡ link = omega arith in
      record { worker = h.0; here = h.1; keeps = subst (λ l. LinkKeeps b h.0 l k) zero_more h.2 }

  put_asked : (p : ℕ) (x : StoreEntry) (r : Record) → slice_get history p ≡ Some x → asks_at x ≡ Puts r
      → IsAsked talks r
  put_asked p x r e is =
      let h = putting p x r e is in
      let s = speaking r.link h.of h.of_is in
      let t = zip_at IsTalkOf links talks r.link h.of ends.talked h.of_is in
      let same : s.worker ≡ h.worker = some_is (sym s.here ∙ ap (slice_get workers) h.owner ∙ h.here) in
      let asked = drawn_for h.worker r.link h.of.drawn (x.1.1.sequence - 1) h.draw (subst (λ w. of_link r.link w.draws ≡ numbered r.link 0 h.of.drawn) same s.keeps.own) h.drawn.1 h.link_is in
      let at : slice_get h.of.drawn r.index ≡ Some (Request_of (Put r.key r.value)) = ap (slice_get h.of.drawn) (sym h.index_is) ∙ asked ∙ ap Some h.request in
      (t.0, t.1, ap (λ (l : List Asked). slice_get l r.index) t.2.1.1 ∙ get_left h.of.drawn t.2.1.0 r.index (Request_of (Put r.key r.value)) at)

  put_once : (p q : ℕ) (x y : StoreEntry) (r s : Record) → slice_get history p ≡ Some x → slice_get history q ≡ Some y
      → asks_at x ≡ Puts r → asks_at y ≡ Puts s → r.link ≡ s.link → r.index ≡ s.index → p ≡ q
  put_once p q x y r s e f is too links_are indexes_are =
      let h = putting p x r e is in
      let k = putting q y s f too in
      let of : h.of ≡ k.of = some_is (sym h.of_is ∙ ap (slice_get links) links_are ∙ k.of_is) in
      let owner : x.0 ≡ y.0 = sym h.owner ∙ ap (λ (z : Link). z.worker) of ∙ k.owner in
      let worker : h.worker ≡ k.worker = some_is (sym h.here ∙ ap (slice_get workers) owner ∙ k.here) in
      let number : x.1.1.sequence - 1 ≡ y.1.1.sequence - 1 =
      same_draw h.worker.draws (x.1.1.sequence - 1) (y.1.1.sequence - 1) h.draw k.draw (keeps_of x.0 h.worker h.here).further h.drawn.1 (ap (λ (w : Worker). slice_get w.draws (y.1.1.sequence - 1)) worker ∙ k.drawn.1)
      (h.link_is ∙ links_are ∙ sym k.link_is) (h.index_is ∙ indexes_are ∙ sym k.index_is) in
      let some = h.drawn.0 in
      let more = k.drawn.0 in
      let same : x.1.1.sequence ≡ y.1.1.sequence = omega (arith, number) in
      let is_ask : IsNoStop (asks_at x) = subst IsNoStop (sym is) tt in
      let too_ask : IsNoStop (asks_at y) = subst IsNoStop (sym too) tt in
      elim (cases_lt p q) [
        | inl less ↦ let r = rises p q x y less e f owner is_ask too_ask in absurd (omega (arith, same))
        | inr not_less ↦ elim (cases_lt q p) [
          | inl above ↦ let r = rises q p y x above f e (sym owner) too_ask is_ask in absurd (omega (arith, same))
          | inr not_above ↦ omega arith
        ]
      ]

  -- a reply that was kept, in the closed history
  closed_reply : (w : Worker) (n : ℕ) (q : Asked) (r : Reply) (ask : Option Ask) → slice_get workers n ≡ Some w
      → r.worker ≡ n → IsReplied b w q r ask → IsAccounted b history end.told q r ask
  closed_reply w n q r None here is h = h
  closed_reply w n q r (Some ask) here is h =
      let pass = passes_of n w here in
      let a = h.1 in
      let e = entry_of n 0 history h.0 (a.token, a.asked) (subst (Among (h.0, (a.token, a.asked))) pass.0 a.submitted) in
      let place : e.0 ≡ h.0 = omega (arith, e.1) in (
        h.0,
        record {
          entry = (n, (a.token, a.asked));
          here = subst (λ m. slice_get history m ≡ Some (n, (a.token, a.asked))) place e.2;
          worker = sym is;
          sequence = a.sequence;
          asks = a.asks;
          said = closed_told b w.known end (says history) h.0 r.answer ends.closed.heard pass.1 a.low a.said;
        },
      )

  -- one reply of a link, by its index

  pub replies_at : (w : Worker) (number link above base : ℕ) (asks : List Asked) (replies : List Reply) (i : ℕ)
      (r : Reply) → RepliesKeep b w number link above base asks replies → slice_get replies i ≡ Some r
      → (q : Asked) × (slice_get asks i ≡ Some q) × (r.worker ≡ number) ×
      (above < r.sequence) × IsDrawn w.draws r.sequence (record { link = link; index = base + i; request = q }) × IsReplied b w q r (ask_of link (base + i) q)
  replies_at w number link above base asks [] i r h e = absurd (cc)
  replies_at w number link above base [] (s ∷ replies) i r h e = absurd h
  replies_at w number link above base (q ∷ asks) (s ∷ replies) zero r h e =
      let n : base ≡ base + 0 = omega arith in
      subst (λ (z : Reply). (x : Asked) × (slice_get (q ∷ asks) 0 ≡ Some x) × (z.worker ≡ number) × (above < z.sequence) × IsDrawn w.draws z.sequence (record { link = link; index = base + 0; request = x }) × IsReplied b w x z (ask_of link (base + 0) x)) (some_is e)
      (q, refl, h.0, h.1, subst (λ m. IsDrawn w.draws s.sequence (record { link = link; index = m; request = q })) n h.2, subst (λ m. IsReplied b w q s (ask_of link m q)) n h.3)
  replies_at w number link above base (q ∷ asks) (s ∷ replies) (suc i) r h e =
      let k = replies_at w number link s.sequence (base + 1) asks replies i r h.4 e in
      let n : base + 1 + i ≡ base + suc i = omega arith in
      (k.0, k.1, k.2, lt_trans h.1 k.3, subst (λ m. IsDrawn w.draws r.sequence (record { link = link; index = m; request = k.0 })) n k.4, subst (λ m. IsReplied b w k.0 r (ask_of link m k.0)) n k.5)
    where
      lt_trans : {x y z : ℕ} → x < y → y < z → x < z
      lt_trans l m = omega arith

  next_by : (w : Worker) (number link above base : ℕ) (asks : List Asked) (replies : List Reply)
      → RepliesKeep b w number link above base asks replies → Pairwise IsNext replies
  next_by w number link above base asks [] h = tt
  next_by w number link above base [] (r ∷ replies) h = absurd h
  next_by w number link above base (q ∷ asks) (r ∷ replies) h =
      (all_by (IsNext r) replies (λ i s e. (let k = replies_at w number link r.sequence (base + 1) asks replies i s h.4 e in (h.0 ∙ sym k.2, k.3))), next_by w number link r.sequence (base + 1) asks replies h.4)

  pub accounted : Accounted b history end.told run talks
  accounted = record {
    old = ends.old;
    limit = ends.limit;
    logged = ends.logged;
    puts = put_asked;
    once = put_once;
    counted = counted;
    rises = rises;
    replied = λ link index t r e d. (
        let k = zip_other IsTalkOf links talks link t ends.talked e in
        let s = speaking link k.0 k.1 in
        let h = replies_at s.worker k.0.worker link 0 0 k.0.drawn k.0.replies index r s.keeps.replied (ap (λ (l : List Reply). slice_get l index) (sym k.2.0) ∙ d) in
        let zero_more : 0 + index ≡ index = omega arith in (
          h.0,
          ap (λ (l : List Asked). slice_get l index) k.2.1.1 ∙ get_left k.0.drawn k.2.1.0 index h.0 h.1,
          h.3,
          closed_reply s.worker k.0.worker h.0 r (ask_of link index h.0) s.here h.2 (subst (λ m. IsReplied b s.worker h.0 r (ask_of link m h.0)) zero_more h.5),
        ));
    along = all_by (λ t. Pairwise IsNext t.replies) talks (λ link t e. (
        let k = zip_other IsTalkOf links talks link t ends.talked e in
        let s = speaking link k.0 k.1 in
        subst (Pairwise IsNext) (sym k.2.0) (next_by s.worker k.0.worker link 0 0 k.0.drawn k.0.replies s.keeps.replied)));
    apart = λ link other i j t u r s differ e f d g same equal. (
        let k = zip_other IsTalkOf links talks link t ends.talked e in
        let o = zip_other IsTalkOf links talks other u ends.talked f in
        let a = speaking link k.0 k.1 in
        let c = speaking other o.0 o.1 in
        let h = replies_at a.worker k.0.worker link 0 0 k.0.drawn k.0.replies i r a.keeps.replied (ap (λ (l : List Reply). slice_get l i) (sym k.2.0) ∙ d) in
        let n = replies_at c.worker o.0.worker other 0 0 o.0.drawn o.0.replies j s c.keeps.replied (ap (λ (l : List Reply). slice_get l j) (sym o.2.0) ∙ g) in
        let number : k.0.worker ≡ o.0.worker = sym h.2 ∙ same ∙ n.2 in
        let worker : a.worker ≡ c.worker = some_is (sym a.here ∙ ap (slice_get workers) number ∙ c.here) in
        let draws : record { link = link; index = 0 + i; request = h.0 } ≡ record { link = other; index = 0 + j; request = n.0 } = some_is (sym h.4.1 ∙ ap (λ (w : Worker). slice_get w.draws (r.sequence - 1)) worker ∙ ap (λ m. slice_get c.worker.draws (m - 1)) equal ∙ n.4.1) in
        differ (ap (λ (z : Draw). z.link) draws));
  }
