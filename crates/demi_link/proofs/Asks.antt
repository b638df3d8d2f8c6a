-- What fits once the store was asked, and once a number was drawn for a plain reply.
use Rattle.std.specs.Prelude.{◌≡◌, ℕ, ◌+◌, ◌-◌, ◌<◌, ◌≤◌, List, [], ◌∷◌, ◌++◌, Option, Some, None, length, refl}
use Rattle.std.proofs.Common.{sym, ◌∙◌, ap, arith, subst, length-append}
use Rattle.demi_heap.specs.Seen.{HalfValue, HeapId}
use Rattle.demi_port_core.specs.declared.place.QToken.{QToken}
use Rattle.demi_sga.specs.Arrays.{AreOf, LentValue}
use Rattle.demi_spec.specs.Input.{Asked}
use Rattle.demi_spec.specs.Reply.{IsAnswer, Reply, spelling}
use Rattle.demi_store.specs.declared.ask.StoreAsk.{StoreAsk}
use Rattle.demi_store.specs.declared.op.StoreOp.{StoreOp}
use Rattle.demi_store.specs.declared.told.StoreTold.{StoreTold}
use Rattle.demi_streamq.specs.Sending.{array_bytes}
use Rattle.demi_served.specs.Asking.{Ask, asks_for, ask_of, plain_answer}
use Rattle.demi_served.specs.Keeps.{Draw, LinkKeeps, IsDrawn, IsReplied}
use Rattle.demi_served.specs.Steps.{after_drawn}
use Rattle.demi_served.proofs.Stepping.{link_asked, link_drawn, worker_asked, worker_drawn}
use Rattle.demi_link.specs.Fitting.{Fits, HasClaimed, IsBehind, Keeps}
use Rattle.demi_link.specs.Sights.{Due, Side, Sight, Submits, worker_of}
use Rattle.demi_link.specs.Stores.{halves_in}
use Rattle.demi_link.specs.Talks.{DeskValue, TalkValue}
use Rattle.demi_link.specs.declared.phase.Cause.{Cause}
use Rattle.demi_link.specs.declared.phase.Kind.{Kind}
use Rattle.demi_link.specs.declared.phase.Phase.TheVariants.{Asking, Holding, Waiting, Sending}
use Rattle.demi_link.proofs.Lists.{among_last, last_at}

-- a number that was drawn last was drawn for the last draw
last_drawn : (draws : List Draw) (d c : Draw) → d ≡ c → IsDrawn (draws ++ d ∷ []) (length draws + 1) c
last_drawn draws d c e = (omega arith, last_at draws d (length draws + 1 - 1) (omega arith) ∙ ap (λ (z : Draw). Some z) e)

-- what a link keeps of its draws alone
bare : (s : Sight) (d : DeskValue) → Keeps s d → LinkKeeps s.base (worker_of s) d.link (record d.talk.kept { replies = [] })
bare s d k = record { own = k.own; replied = tt }

-- the draw for a request of a link
abbrev pub draw_of : DeskValue → Draw
draw_of d = record { link = d.link; index = length d.talk.kept.drawn; request = d.talk.request }

abbrev pub sight_asked : Sight → DeskValue → StoreOp → ℕ → ℕ → Sight
sight_asked a d op place token = record a {
  store = record a.store { seen = place + 1; submitted = a.store.submitted ++ (place, (token, record { sequence = length a.draws + 1; op = op })) ∷ [] };
  draws = a.draws ++ draw_of d ∷ [];
  out = a.out - halves_in op;
  due = record a.due { store = a.due.store + 1 };
}

pub asked_sight : (a b : Sight) (d : DeskValue) (op : StoreOp) (place token sequence : ℕ) → sequence ≡ length a.draws + 1 → Submits place a.store b.store token (record { sequence = sequence; op = op })
    → b ≡ record a { store = b.store; draws = a.draws ++ draw_of d ∷ []; out = a.out - halves_in op; due = record a.due { store = a.due.store + 1 } } → b ≡ sight_asked a d op place token
asked_sight a b d op place token sequence number sub only =
    only ∙ ap (λ (x : Side StoreAsk StoreTold). record a { store = x; draws = a.draws ++ draw_of d ∷ []; out = a.out - halves_in op; due = record a.due { store = a.due.store + 1 } }) sub.side
    ∙ ap (λ (n : ℕ). record a { store = record a.store { seen = place + 1; submitted = a.store.submitted ++ (place, (token, record { sequence = n; op = op })) ∷ [] }; draws = a.draws ++ draw_of d ∷ []; out = a.out - halves_in op; due = record a.due { store = a.due.store + 1 } }) number

abbrev pub desk_drawn : DeskValue → TalkValue → DeskValue
desk_drawn d talk = record d { index = d.index + 1; talk = talk }

pub asked_next : (ports : ℕ) (a : Sight) (d : DeskValue) (half : Option LentValue) (op : StoreOp) (place : ℕ) (token : QToken) → Fits ports a d (Holding half op) → token.port < ports
    → Fits ports (sight_asked a d op place token.token.0) (desk_drawn d (record d.talk { kept = after_drawn d.talk.kept d.talk.request })) (Waiting token (length a.draws + 1) half)
asked_next ports a d half op place token f lt =
    let g = f.agrees in
    let k = f.keeps in
    let q = d.talk.request in
    let w = worker_of a in
    let x : ℕ × (ℕ × StoreAsk) = (place, (token.token.0, record { sequence = length a.draws + 1; op = op })) in
    let even : length d.talk.kept.replies ≡ length d.talk.kept.drawn = g.2.1 in
    let longer = length-append d.talk.kept.drawn (q ∷ []) in
    let asks : ask_of d.link (length d.talk.kept.drawn) q ≡ Some (asks_for op) = ap (λ (n : ℕ). ask_of d.link n q) (sym k.index) ∙ g.6 in
    record {
      agrees = (
        g.0,
        (g.2.0, longer ∙ (omega arith), last_at d.talk.kept.drawn q (length d.talk.kept.replies) even),
        g.3,
        g.4,
        (let o = g.5 in omega arith),
        lt,
        record {
          asked = op;
          asks = ap (λ (n : ℕ). ask_of d.link n q) even ∙ asks;
          proper = g.7;
          halves = g.8;
          place = place;
          here = among_last a.store.submitted x;
          drawn = last_drawn a.draws (draw_of d) (record { link = d.link; index = length d.talk.kept.replies; request = q }) (ap (λ (n : ℕ). record { link = d.link; index = n; request = q }) (sym even));
        },
        ap (λ (x : Due). record x { store = x.store + 1 }) g.9,
      );
      worker = worker_asked w d.link d.talk.kept.drawn q op place token.token.0 f.worker k.own asks;
      keeps = record {
        own = (link_asked a.base w d.link (record d.talk.kept { replies = [] }) q op place token.token.0 (bare a d k)).own;
        kept = link_asked a.base w d.link d.talk.kept q op place token.token.0 k.kept;
        fits = k.fits;
        number = k.number;
        index = ap (λ (n : ℕ). n + 1) k.index ∙ sym longer;
        reads = record { pops = k.reads.pops; rises = k.reads.rises; below = k.reads.below; taken = k.reads.taken };
        writes = record { pushes = k.writes.pushes; texts = k.writes.texts; rises = k.writes.rises; below = k.writes.below; written = k.writes.written };
        read = k.read;
        refusal = k.refusal;
        final = k.final;
        due = k.due;
      };
    }

-- a request that asks nothing of the store has the plain reply
plain_replied : (s : Sight) (link index : ℕ) (q : Asked) (r : Reply) → ask_of link index q ≡ None → r.answer ≡ plain_answer q → IsReplied s.base (worker_of s) q r (ask_of link index q)
plain_replied s link index q r none e = subst (λ (o : Option Ask). IsReplied s.base (worker_of s) q r o) (sym none) e

abbrev pub talk_plain : TalkValue → ℕ → TalkValue
talk_plain k sequence = record k { kept = after_drawn k.kept k.request; reply = record { worker = k.kept.worker; sequence = sequence; answer = plain_answer k.request } }

pub plain_next : (ports : ℕ) (s b : Sight) (d : DeskValue) (kind : Kind) (count : ℕ) (behind : Option Cause) (sga : List HalfValue) (sequence : ℕ) (z : TalkValue) → HasClaimed ports s d (Asking kind) count → IsBehind behind (desk_drawn d (talk_plain d.talk sequence))
    → ask_of d.link (length d.talk.kept.drawn) d.talk.request ≡ None → IsAnswer (plain_answer d.talk.request) → sequence ≡ length s.draws + 1 → sequence ≤ 18446744073709551615
    → b ≡ record s { draws = s.draws ++ draw_of d ∷ [] } → z ≡ talk_plain d.talk sequence → length sga ≡ count → AreOf s.heap sga → array_bytes sga ≡ spelling (talk_plain d.talk sequence).reply
    → Fits ports b (desk_drawn d z) (Sending sga behind)
plain_next ports s b d kind count behind sga sequence z h is_behind none fits number most only is long heap spelled =
    let a = h.before in
    let f = h.fits in
    let g = f.agrees in
    let k = f.keeps in
    let q = d.talk.request in
    let w = worker_of a in
    let draws : s.draws ≡ a.draws = ap (λ (x : Sight). x.draws) h.is in
    let same : b ≡ record a { draws = a.draws ++ draw_of d ∷ []; out = a.out + count } = only ∙ ap (λ (x : Sight). record x { draws = x.draws ++ draw_of d ∷ [] }) h.is in
    let even : length d.talk.kept.replies ≡ length d.talk.kept.drawn = g.2.1 in
    let longer = length-append d.talk.kept.drawn (q ∷ []) in
    let at : sequence ≡ length a.draws + 1 = number ∙ ap (λ (l : List Draw). length l + 1) draws in
    let heap_is : s.heap ≡ a.heap = ap (λ (x : Sight). x.heap) h.is in
    let goal_draw : Draw = record { link = d.link; index = length d.talk.kept.replies; request = q } in
    subst (λ (x : Sight). Fits ports x (desk_drawn d z) (Sending sga behind)) (sym same) (subst (λ (y : TalkValue). Fits ports (record a { draws = a.draws ++ draw_of d ∷ []; out = a.out + count }) (desk_drawn d y) (Sending sga behind)) (sym is) (record {
      agrees = (
        is_behind,
        (g.2.0, longer ∙ (omega arith), last_at d.talk.kept.drawn q (length d.talk.kept.replies) even),
        g.3,
        g.4,
        (let o = g.5 in omega arith),
        record {
          worker = refl;
          drawn = subst (λ (n : ℕ). IsDrawn (a.draws ++ draw_of d ∷ []) n goal_draw) (sym at) (last_drawn a.draws (draw_of d) goal_draw (ap (λ (n : ℕ). record { link = d.link; index = n; request = q }) (sym even)));
          replied = plain_replied (record a { draws = a.draws ++ draw_of d ∷ []; out = a.out + count }) d.link (length d.talk.kept.replies) q (talk_plain d.talk sequence).reply (ap (λ (n : ℕ). ask_of d.link n q) even ∙ none) refl;
        },
        subst (λ (x : HeapId). AreOf x sga) heap_is heap,
        spelled,
        record { worker = (let n = k.number.2 in let m = k.number.0 in omega arith); sequence = most; answer = fits },
        g.6,
      );
      worker = worker_drawn w d.link d.talk.kept.drawn q f.worker k.own;
      keeps = record {
        own = (link_drawn a.base w d.link (record d.talk.kept { replies = [] }) q (bare a d k)).own;
        kept = link_drawn a.base w d.link d.talk.kept q k.kept;
        fits = k.fits;
        number = k.number;
        index = ap (λ (n : ℕ). n + 1) k.index ∙ sym longer;
        reads = record { pops = k.reads.pops; rises = k.reads.rises; below = k.reads.below; taken = k.reads.taken };
        writes = record { pushes = k.writes.pushes; texts = k.writes.texts; rises = k.writes.rises; below = k.writes.below; written = k.writes.written };
        read = k.read;
        refusal = k.refusal;
        final = k.final;
        due = k.due;
      };
    }))
