-- What workers and links keep stays so at each step.
use Rattle.std.proofs.Common.{◌≡◌, ◌≢◌, ℕ, ◌+◌, ◌-◌, ◌≤◌, ◌<◌, Bool, true, false, List, [], ◌∷◌, ◌++◌, length, Option, None, Some, refl, arith, ◌∙◌, ap, sym, subst, cond, inl, inr, le_refl, append-nil}
use Rattle.std.specs.Prelude.{slice_get, ◌==◌}
use Rattle.std.specs.List.{AllByRecursion}
use Rattle.std.proofs.lemmas.Bool.Decides.{nat_tests}
use Rattle.std.proofs.lemmas.Bool.{cases_lt}
use Rattle.demi_port_core.specs.History.{Among}
use Rattle.demi_port_core.specs.Trails.{StartsWith, Behind}
use Rattle.demi_port_core.specs.declared.trail.Trail.{Trail}
use Rattle.demi_spec.specs.Input.{Asked}
use Rattle.demi_spec.specs.Reply.{Reply}
use Rattle.demi_store.specs.Laws.{StoreBasis}
use Rattle.demi_store.specs.declared.ask.StoreAsk.{StoreAsk}
use Rattle.demi_store.specs.declared.op.StoreOp.{StoreOp}
use Rattle.demi_store.specs.declared.op.StoreOp.TheVariants.{Stop}
use Rattle.demi_store.specs.declared.told.StoreTold.{StoreTold}
use Rattle.demi_served.specs.Served.{Pairwise}
use Rattle.demi_served.specs.Asking.{Ask, asks_for, ask_of, IsToldTo}
use Rattle.demi_served.specs.Keeps.{Draw, Worker, IsDrawn, IsOfDraw, IsFurther, IsLaterAsk, WorkerKeeps, Link, LinkKeeps, of_link, numbered, IsReplied, RepliesKeep}
use Rattle.demi_served.specs.Steps.{new_worker, new_link, after_draw, after_ask, after_stop, after_handing, after_drawn, after_reply, GoesBeside}
use Rattle.demi_served.proofs.Lists.{some_is, all_append, pairwise_at, pairwise_append, get_left, get_within}
use Rattle.demi_served.proofs.Steady.{grown_told}

all_more : {X : Type 0} (P Q : X → Type 0) (xs : List X) → ((x : X) → P x → Q x) → AllByRecursion P xs
    → AllByRecursion Q xs
all_more P Q [] f h = tt
all_more P Q (x ∷ xs) f h = (f x h.0, all_more P Q xs f h.1)

get_last : {X : Type 0} (xs : List X) (x : X) → slice_get (xs ++ x ∷ []) (length xs) ≡ Some x
get_last [] x = refl
get_last (y ∷ xs) x = get_last xs x

-- numbers that were drawn stay drawn
drawn_left : (draws more : List Draw) (s : ℕ) (d : Draw) → IsDrawn draws s d → IsDrawn (draws ++ more) s d
drawn_left draws more s d h = (h.0, get_left draws more (s - 1) d h.1)

of_draw_left : (draws more : List Draw) (x : ℕ × (ℕ × StoreAsk)) → IsOfDraw draws x → IsOfDraw (draws ++ more) x
of_draw_left draws more x h a = let k = h a in (k.0, drawn_left draws more x.1.1.sequence k.0 k.1, k.2)

-- a draw of the next index of its link is further than all
numbered_below : (link base : ℕ) (asks : List Asked)
    → AllByRecursion (λ d. d.index < base + length asks) (numbered link base asks)
numbered_below link base [] = tt
numbered_below link base (q ∷ asks) = (omega arith, all_more (λ d. d.index < base + 1 + length asks) (λ d. d.index < base + length (q ∷ asks)) (numbered link (base + 1) asks) (λ d h. omega arith) (numbered_below link (base + 1) asks))

of_link_below : (link n : ℕ) (draws : List Draw) → AllByRecursion (λ d. d.index < n) (of_link link draws)
    → AllByRecursion (λ d. d.link ≡ link → d.index < n) draws
of_link_below link n [] h = tt
of_link_below link n (d ∷ draws) h = go (λ more. of_link_below link n draws more) (d.link == link) refl h
  where
    go : (AllByRecursion (λ d. d.index < n) (of_link link draws) → AllByRecursion (λ d. d.link ≡ link → d.index < n) draws) → (c : Bool) → (d.link == link) ≡ c
        → AllByRecursion (λ d. d.index < n) (cond c (d ∷ of_link link draws) (of_link link draws))
        → AllByRecursion (λ d. d.link ≡ link → d.index < n) (d ∷ draws)
    go rest true t h = (λ same. h.0, rest h.1)
    go rest false t h = (λ same. absurd (grind (arith, nat_tests)), rest h)

further_more : (w : Worker) (link : ℕ) (asks : List Asked) (q : Asked) → Pairwise IsFurther w.draws
    → of_link link w.draws ≡ numbered link 0 asks
    → Pairwise IsFurther (w.draws ++ record { link = link; index = length asks; request = q } ∷ [])
further_more w link asks q far own =
    let last : Draw = record { link = link; index = length asks; request = q } in
    let none : 0 + length asks ≡ length asks = omega arith in
    let low = of_link_below link (0 + length asks) w.draws (subst (AllByRecursion (λ d. d.index < 0 + length asks)) (sym own) (numbered_below link 0 asks)) in
    pairwise_append IsFurther w.draws (last ∷ []) far (tt, tt)
    (all_more (λ d. d.link ≡ link → d.index < 0 + length asks) (λ d. AllByRecursion (IsFurther d) (last ∷ [])) w.draws (λ d h. (λ same. (let k = h same in omega arith), tt)) low)

pub first_worker : (known : Trail StoreAsk StoreTold) → WorkerKeeps (new_worker known)
first_worker known = record { asks = tt; rises = tt; further = tt }

pub worker_drawn : (w : Worker) (link : ℕ) (asks : List Asked) (q : Asked) → WorkerKeeps w
    → of_link link w.draws ≡ numbered link 0 asks → WorkerKeeps (after_draw w link (length asks) q)
worker_drawn w link asks q k own = record {
  asks = all_more (IsOfDraw w.draws) (IsOfDraw (after_draw w link (length asks) q).draws) w.submitted (of_draw_left w.draws (record { link = link; index = length asks; request = q } ∷ [])) k.asks;
  rises = k.rises;
  further = further_more w link asks q k.further own;
}

pub worker_asked : (w : Worker) (link : ℕ) (asks : List Asked) (q : Asked) (op : StoreOp) (p t : ℕ) → WorkerKeeps w
    → of_link link w.draws ≡ numbered link 0 asks → ask_of link (length asks) q ≡ Some (asks_for op)
    → WorkerKeeps (after_ask w link (length asks) q op p t)
worker_asked w link asks q op p t k own is =
    let last : Draw = record { link = link; index = length asks; request = q } in
    let mine : ℕ × (ℕ × StoreAsk) = (p, (t, record { sequence = length w.draws + 1; op = op })) in
    let at : length w.draws + 1 - 1 ≡ length w.draws = omega arith in
    record {
      asks = all_append (IsOfDraw (w.draws ++ last ∷ [])) w.submitted (mine ∷ []) (all_more (IsOfDraw w.draws) (IsOfDraw (w.draws ++ last ∷ [])) w.submitted (of_draw_left w.draws (last ∷ [])) k.asks)
          (λ a. (last, (omega arith, ap (slice_get (w.draws ++ last ∷ [])) at ∙ get_last w.draws last), is), tt);
      rises = pairwise_append IsLaterAsk w.submitted (mine ∷ []) k.rises (tt, tt)
          (all_more (IsOfDraw w.draws) (λ x. AllByRecursion (IsLaterAsk x) (mine ∷ [])) w.submitted (λ x h. (λ a c. (let d = h a in let in_range = get_within w.draws (x.1.1.sequence - 1) d.0 d.1.1 in omega arith), tt)) k.asks);
      further = further_more w link asks q k.further own;
    }

pub worker_handed : (w : Worker) (known : Trail StoreAsk StoreTold) → WorkerKeeps w
    → WorkerKeeps (after_handing w known)
worker_handed w known k = record { asks = k.asks; rises = k.rises; further = k.further }

pub worker_stopped : (w : Worker) (p t : ℕ) → WorkerKeeps w → WorkerKeeps (after_stop w p t)
worker_stopped w p t k =
    let mine : ℕ × (ℕ × StoreAsk) = (p, (t, record { sequence = 0; op = Stop })) in
    record {
      asks = all_append (IsOfDraw w.draws) w.submitted (mine ∷ []) k.asks (λ a. absurd a, tt);
      rises = pairwise_append IsLaterAsk w.submitted (mine ∷ []) k.rises (tt, tt) (all_more (IsOfDraw w.draws) (λ x. AllByRecursion (IsLaterAsk x) (mine ∷ [])) w.submitted (λ x h. (λ a c. absurd c, tt)) k.asks);
      further = k.further;
    }

-- Links.
no_draws : (link : ℕ) (draws : List Draw) → AllByRecursion (λ d. d.link ≢ link) draws → of_link link draws ≡ []
no_draws link [] h = refl
no_draws link (d ∷ draws) h =
    let other = h.0 in
    let not_it : (d.link == link) ≡ false = grind (arith, nat_tests) in
    ap (λ (c : Bool). cond c (d ∷ of_link link draws) (of_link link draws)) not_it ∙ no_draws link draws h.1

of_link_append : (link : ℕ) (xs ys : List Draw) → of_link link (xs ++ ys) ≡ of_link link xs ++ of_link link ys
of_link_append link [] ys = refl
of_link_append link (d ∷ xs) ys = go (of_link_append link xs ys) (d.link == link)
  where
    go : of_link link (xs ++ ys) ≡ of_link link xs ++ of_link link ys → (c : Bool)
        → cond c (d ∷ of_link link (xs ++ ys)) (of_link link (xs ++ ys)) ≡ cond c (d ∷ of_link link xs)
        (of_link link xs) ++ of_link link ys
    go e true = ap (λ (l : List Draw). d ∷ l) e
    go e false = e

numbered_push : (link base : ℕ) (asks : List Asked) (q : Asked)
    → numbered link base (asks ++ q ∷ []) ≡ numbered link base asks ++ record { link = link; index = base + length asks; request = q } ∷ []
numbered_push link base [] q = let n : base ≡ base + 0 = omega arith in ap (λ m. record { link = link; index = m; request = q } ∷ []) n
numbered_push link base (x ∷ asks) q =
    let n : base + 1 + length asks ≡ base + length (x ∷ asks) = omega arith in
    ap (λ (l : List Draw). record { link = link; index = base; request = x } ∷ l) (numbered_push link (base + 1) asks q
    ∙ ap (λ m. numbered link (base + 1) asks ++ record { link = link; index = m; request = q } ∷ []) n)

own_push : (w : Worker) (link : ℕ) (asks : List Asked) (q : Asked) → of_link link w.draws ≡ numbered link 0 asks
    → of_link link (w.draws ++ record { link = link; index = length asks; request = q } ∷ []) ≡ numbered link 0
    (asks ++ q ∷ [])
own_push w link asks q own =
    let last : Draw = record { link = link; index = length asks; request = q } in
    let same : (link == link) ≡ true = grind (arith, nat_tests) in
    let none : length asks ≡ 0 + length asks = omega arith in
    of_link_append link w.draws (last ∷ []) ∙ ap (λ (l : List Draw). l ++ of_link link (last ∷ [])) own
    ∙ ap (λ (c : Bool). numbered link 0 asks ++ cond c (last ∷ []) []) same
    ∙ ap (λ m. numbered link 0 asks ++ record { link = link; index = m; request = q } ∷ []) none
    ∙ sym (numbered_push link 0 asks q)

among_append : {X : Type 0} (x : X) (xs ys : List X) → Among x xs → Among x (xs ++ ys)
among_append x [] ys h = absurd h
among_append x (y ∷ xs) ys (inl e) = inl e
among_append x (y ∷ xs) ys (inr h) = inr (among_append x xs ys h)

-- a worker that has at least what another has
pub record Grown (v w : Worker) : Type 0 where
  pub submitted : StartsWith w.submitted v.submitted
  pub draws : StartsWith w.draws v.draws
  pub known : Behind w.known v.known

still_replied : (b : StoreBasis) (v w : Worker) (q : Asked) (r : Reply) → Grown v w → (ask : Option Ask)
    → IsReplied b v q r ask → IsReplied b w q r ask
still_replied b v w q r g None h = h
still_replied b v w q r g (Some ask) h =
    let a = h.1 in
    let x : ℕ × (ℕ × StoreAsk) = (h.0, (a.token, a.asked)) in (
      h.0,
      record {
        token = a.token;
        asked = a.asked;
        submitted = subst (Among x) (sym g.submitted.1) (among_append x v.submitted g.submitted.0 a.submitted);
        sequence = a.sequence;
        asks = a.asks;
        said = grown_told b v.known w.known h.0 r.answer g.known a.low a.said;
        low = (let up = g.known.floor in let low = a.low in omega arith);
      },
    )

still_keep : (b : StoreBasis) (v w : Worker) (number link above index : ℕ) (asks more : List Asked)
    (replies : List Reply) → Grown v w → RepliesKeep b v number link above index asks replies
    → RepliesKeep b w number link above index (asks ++ more) replies
still_keep b v w number link above index asks more [] g h = tt
still_keep b v w number link above index [] more (r ∷ replies) g h = absurd h
still_keep b v w number link above index (q ∷ asks) more (r ∷ replies) g h = (
  h.0,
  h.1,
  subst (λ (l : List Draw). IsDrawn l r.sequence (record { link = link; index = index; request = q })) (sym g.draws.1) (drawn_left v.draws g.draws.0 r.sequence (record { link = link; index = index; request = q }) h.2),
  still_replied b v w q r g (ask_of link index q) h.3,
  still_keep b v w number link r.sequence (index + 1) asks more replies g h.4,
)

same_asks : (b : StoreBasis) (w : Worker) (number link above index : ℕ) (asks : List Asked) (replies : List Reply)
    → RepliesKeep b w number link above index (asks ++ []) replies
    → RepliesKeep b w number link above index asks replies
same_asks b w number link above index asks replies h = subst (λ (l : List Asked). RepliesKeep b w number link above index l replies) (append-nil asks) h

itself : (known : Trail StoreAsk StoreTold) → Behind known known
itself known = record { heard = ([], sym (append-nil known.heard)); told = ([], sym (append-nil known.told), tt); floor = le_refl _ }

pub first_link : (b : StoreBasis) (w : Worker) (link number : ℕ) → AllByRecursion (λ d. d.link ≢ link) w.draws
    → LinkKeeps b w link (new_link number)
first_link b w link number h = record { own = no_draws link w.draws h; replied = tt }

pub link_beside : (b : StoreBasis) (v w : Worker) (link : ℕ) (k : Link) → LinkKeeps b v link k → GoesBeside link v w
    → LinkKeeps b w link k
link_beside b v w link k h g = record {
  own = ap (of_link link) g.draws.1 ∙ of_link_append link v.draws g.draws.0
      ∙ ap (λ (l : List Draw). of_link link v.draws ++ l) (no_draws link g.draws.0 g.draws.2)
      ∙ append-nil (of_link link v.draws) ∙ h.own;
  replied = same_asks b w k.worker link 0 0 k.drawn k.replies (still_keep b v w k.worker link 0 0 k.drawn [] k.replies (record { submitted = g.submitted; draws = (g.draws.0, g.draws.1); known = g.known }) h.replied);
}

pub link_drawn : (b : StoreBasis) (w : Worker) (link : ℕ) (k : Link) (q : Asked) → LinkKeeps b w link k
    → LinkKeeps b (after_draw w link (length k.drawn) q) link (after_drawn k q)
link_drawn b w link k q h = record {
  own = own_push w link k.drawn q h.own;
  replied = still_keep b w (after_draw w link (length k.drawn) q) k.worker link 0 0 k.drawn (q ∷ []) k.replies (record { submitted = ([], sym (append-nil w.submitted)); draws = (record { link = link; index = length k.drawn; request = q } ∷ [], refl); known = itself w.known }) h.replied;
}

pub link_asked : (b : StoreBasis) (w : Worker) (link : ℕ) (k : Link) (q : Asked) (op : StoreOp) (p t : ℕ)
    → LinkKeeps b w link k → LinkKeeps b (after_ask w link (length k.drawn) q op p t) link (after_drawn k q)
link_asked b w link k q op p t h = record {
  own = own_push w link k.drawn q h.own;
  replied = still_keep b w (after_ask w link (length k.drawn) q op p t) k.worker link 0 0 k.drawn (q ∷ []) k.replies
      (record { submitted = ((p, (t, record { sequence = length w.draws + 1; op = op })) ∷ [], refl); draws = (record { link = link; index = length k.drawn; request = q } ∷ [], refl); known = itself w.known }) h.replied;
}

pub link_handed : (b : StoreBasis) (w : Worker) (link : ℕ) (k : Link) (known : Trail StoreAsk StoreTold)
    → LinkKeeps b w link k → Behind known w.known → LinkKeeps b (after_handing w known) link k
link_handed b w link k known h behind = record {
  own = h.own;
  replied = same_asks b (after_handing w known) k.worker link 0 0 k.drawn k.replies (still_keep b w (after_handing w known) k.worker link 0 0 k.drawn [] k.replies (record { submitted = ([], sym (append-nil w.submitted)); draws = ([], sym (append-nil w.draws)); known = behind }) h.replied);
}

-- one more reply behind others, with a number above theirs
one_more : (b : StoreBasis) (w : Worker) (number link above base : ℕ) (asks : List Asked) (replies : List Reply)
    (q : Asked) (r : Reply) → RepliesKeep b w number link above base asks replies
    → slice_get asks (length replies) ≡ Some q → r.worker ≡ number → above < r.sequence
    → AllByRecursion (λ s. s.sequence < r.sequence) replies
    → IsDrawn w.draws r.sequence (record { link = link; index = base + length replies; request = q })
    → IsReplied b w q r (ask_of link (base + length replies) q)
    → RepliesKeep b w number link above base asks (replies ++ r ∷ [])
one_more b w number link above base [] [] q r h at is up less d a = absurd (cc)
one_more b w number link above base (x ∷ asks) [] q r h at is up less d a =
    let n : base + 0 ≡ base = omega arith in
    let same : x ≡ q = some_is at in (
      is,
      up,
      subst (λ m. IsDrawn w.draws r.sequence (record { link = link; index = m; request = x })) n (subst (λ z. IsDrawn w.draws r.sequence (record { link = link; index = base + 0; request = z })) (sym same) d),
      subst (λ m. IsReplied b w x r (ask_of link m x)) n (subst (λ z. IsReplied b w z r (ask_of link (base + 0) z)) (sym same) a),
      tt,
    )
one_more b w number link above base [] (s ∷ replies) q r h at is up less d a = absurd h
one_more b w number link above base (x ∷ asks) (s ∷ replies) q r h at is up less d a =
    let n : base + length (s ∷ replies) ≡ base + 1 + length replies = omega arith in (
      h.0,
      h.1,
      h.2,
      h.3,
      one_more b w number link s.sequence (base + 1) asks replies q r h.4 at is less.0 less.1
          (subst (λ m. IsDrawn w.draws r.sequence (record { link = link; index = m; request = q })) n d) (subst (λ m. IsReplied b w q r (ask_of link m q)) n a),
    )

-- the numbers of earlier replies are below that of a later index
earlier : (b : StoreBasis) (w : Worker) (number link above base n : ℕ) (asks : List Asked) (replies : List Reply)
    (s : ℕ) (q : Asked) → Pairwise IsFurther w.draws → RepliesKeep b w number link above base asks replies
    → base + length replies ≤ n → IsDrawn w.draws s (record { link = link; index = n; request = q })
    → AllByRecursion (λ r. r.sequence < s) replies
earlier b w number link above base n asks [] s q far h le d = tt
earlier b w number link above base n [] (r ∷ replies) s q far h le d = absurd h
earlier b w number link above base n (x ∷ asks) (r ∷ replies) s q far h le d =
    (less, earlier b w number link r.sequence (base + 1) n asks replies s q far h.4 (omega arith) d)
  where
    less : r.sequence < s
    less =
        let some = h.2.0 in
        let more = d.0 in
        elim (cases_lt (r.sequence - 1) (s - 1)) [
          | inl below ↦ omega arith
          | inr not_below ↦ elim (cases_lt (s - 1) (r.sequence - 1)) [
            | inl over ↦ let wrong = pairwise_at IsFurther w.draws (s - 1) (r.sequence - 1) (record { link = link; index = n; request = q }) (record { link = link; index = base; request = x }) far over d.1 h.2.1 refl in absurd (omega arith)
            | inr not_over ↦
                let at : s - 1 ≡ r.sequence - 1 = omega arith in
                let same : record { link = link; index = n; request = q } ≡ record { link = link; index = base; request = x } = some_is (sym d.1 ∙ ap (slice_get w.draws) at ∙ h.2.1) in
                let index : n ≡ base = ap (λ (z : Draw). z.index) same in absurd (omega arith)
          ]
        ]

pub link_replied : (b : StoreBasis) (w : Worker) (link : ℕ) (k : Link) (q : Asked) (r : Reply) → WorkerKeeps w
    → LinkKeeps b w link k → slice_get k.drawn (length k.replies) ≡ Some q → r.worker ≡ k.worker
    → IsDrawn w.draws r.sequence (record { link = link; index = length k.replies; request = q })
    → IsReplied b w q r (ask_of link (length k.replies) q) → LinkKeeps b w link (after_reply k r)
link_replied b w link k q r keeps h at is d a =
    let n : length k.replies ≡ 0 + length k.replies = omega arith in
    let some = d.0 in
    record {
      own = h.own;
      replied = one_more b w k.worker link 0 0 k.drawn k.replies q r h.replied at is (omega arith) (earlier b w k.worker link 0 0 (length k.replies) k.drawn k.replies r.sequence q keeps.further h.replied (omega arith) d)
          (subst (λ m. IsDrawn w.draws r.sequence (record { link = link; index = m; request = q })) n d) (subst (λ m. IsReplied b w q r (ask_of link m q)) n a);
    }

-- What a coroutine holds between its polls.
pub link_answered : (b : StoreBasis) (w : Worker) (known : Trail StoreAsk StoreTold) (q : Asked) (r : Reply)
    (s : StoreAsk) (p t place : ℕ) → Among (p, (t, s)) w.submitted → s.sequence ≡ r.sequence
    → ((x : ℕ) (d : StoreAsk) → Among (x, (t, d)) w.submitted → x ≡ place)
    → IsToldTo b known.heard known.told place r.answer → place < known.floor
    → IsReplied b (after_handing w known) q r (Some (asks_for s.op))
link_answered b w known q r s p t place among number own said low =
    let same : p ≡ place = own p s among in
    (place, record { token = t; asked = s; submitted = subst (λ m. Among (m, (t, s)) w.submitted) same among; sequence = number; asks = refl; said = said; low = low })

grown_beside : (v w : Worker) (link : ℕ) → GoesBeside link v w → Grown v w
grown_beside v w link g = record { submitted = g.submitted; draws = (g.draws.0, g.draws.1); known = g.known }

pub link_waits : (b : StoreBasis) (v w : Worker) (link : ℕ) (q : Asked) (r : Reply) (ask : Option Ask)
    → GoesBeside link v w → IsReplied b v q r ask → IsReplied b w q r ask
link_waits b v w link q r ask g h = still_replied b v w q r (grown_beside v w link g) ask h

pub link_holds_draw : (v w : Worker) (link s : ℕ) (d : Draw) → GoesBeside link v w → IsDrawn v.draws s d
    → IsDrawn w.draws s d
link_holds_draw v w link s d g h = subst (λ (l : List Draw). IsDrawn l s d) (sym g.draws.1) (drawn_left v.draws g.draws.0 s d h)

pub link_holds_ask : (v w : Worker) (link : ℕ) (x : ℕ × (ℕ × StoreAsk)) → GoesBeside link v w → Among x v.submitted
    → Among x w.submitted
link_holds_ask v w link x g h = subst (Among x) (sym g.submitted.1) (among_append x v.submitted g.submitted.0 h)
