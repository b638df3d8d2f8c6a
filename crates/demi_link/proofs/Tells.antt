-- What fits once the store's operation came to its outcome.
use Rattle.std.specs.Prelude.{◌≡◌, ℕ, ◌+◌, ◌-◌, ◌≤◌, List, [], ◌∷◌, ◌++◌, Option, Some, None, length, refl, slice_get, take}
use Rattle.std.proofs.Common.{sym, ◌∙◌, ap, arith, subst}
use Rattle.demi_heap.specs.Seen.{HalfValue}
use Rattle.demi_port_core.specs.History.{Among}
use Rattle.demi_port_core.specs.declared.trail.Trail.{Trail}
use Rattle.demi_sga.specs.Arrays.{AreOf, LentValue}
use Rattle.demi_spec.specs.Reply.{IsAnswer, IsReply, Reply, frame, spelling}
use Rattle.demi_store.specs.History.{Said, standing, struck_at}
use Rattle.demi_store.specs.Laws.{SaysTo, said_to}
use Rattle.demi_store.specs.declared.ask.StoreAsk.{StoreAsk}
use Rattle.demi_store.specs.declared.answer.StoreAnswer.{StoreAnswer}
use Rattle.demi_store.specs.declared.answer.StoreAnswer.TheVariants as said
use Rattle.demi_store.specs.declared.out.StoreOut.{StoreOut}
use Rattle.demi_store.specs.declared.told.StoreTold.{StoreTold}
use Rattle.demi_streamq.specs.Sending.{array_bytes}
use Rattle.demi_served.specs.Asking.{reply_for}
use Rattle.demi_served.specs.Keeps.{IsReplied, WorkerKeeps}
use Rattle.demi_served.proofs.Outcomes.{outcome_told}
use Rattle.demi_served.proofs.Stepping.{link_answered, link_handed, worker_handed}
use Rattle.demi_link.specs.Heard.{IsLogFault, IsMemoryFault}
use Rattle.demi_link.specs.Fitting.{Fits, HeardOf, IsSent, Keeps, Told, answer_as, body_of, reply_as, with_reply}
use Rattle.demi_link.specs.Giving.{Says, segments_of, where_bytes}
use Rattle.demi_link.specs.Sights.{Due, Side, Sight, nothing_due, worker_of}
use Rattle.demi_link.specs.Stores.{halves_back}
use Rattle.demi_link.specs.Talks.{DeskValue}
use Rattle.demi_link.specs.declared.phase.Cause.TheVariants as cause
use Rattle.demi_link.specs.declared.phase.Draft.{Draft}
use Rattle.demi_link.specs.declared.phase.Phase.TheVariants.{Over, Replying, Sending}
use Rattle.demi_link.proofs.Backs.{GivesBack, found_as, gives_back, of_op, stored_as}

some_ask : {x y : StoreAsk} → Some x ≡ Some y → x ≡ y
some_ask e = cc

module _ (ports : ℕ) (s : Sight) (d : DeskValue) (sequence : ℕ) (half : Option LentValue) (out : StoreOut) (t : Told ports s d sequence half out) where
  abbrev known : Trail StoreAsk StoreTold
  known = s.store.known

  -- the sight with so many halves out
  abbrev there : ℕ → Sight
  there n = record t.before { store = record t.before.store { redeemed = t.before.store.redeemed ++ (t.place, t.token.token.0) ∷ []; known = known }; out = n; due = record t.before.due { store = t.before.due.store - 1 } }

  pub there_is : s ≡ there (t.before.out + halves_back out)
  there_is = t.is ∙ ap (λ (x : Side StoreAsk StoreTold). record t.before { store = x; out = t.before.out + halves_back out; due = record t.before.due { store = t.before.due.store - 1 } }) t.redeems.side

  abbrev pending_ask : StoreAsk
  pending_ask = record { sequence = sequence; op = t.fits.agrees.6.asked }

  own_place : t.fits.agrees.6.place ≡ t.place
  own_place = t.redeems.own t.fits.agrees.6.place pending_ask t.fits.agrees.6.here

  here : slice_get known.heard t.place ≡ Some pending_ask
  here = t.redeems.said pending_ask (subst (λ (n : ℕ). Among (n, (t.token.token.0, pending_ask)) t.before.store.submitted) own_place t.fits.agrees.6.here)

  abbrev answer_said : Said
  answer_said = said_to t.before.base known.heard known.told t.place pending_ask

  says : SaysTo t.before.base.told t.fits.agrees.6.asked answer_said out
  says =
      let a = t.redeems.admitted in
      let same : a.0 ≡ pending_ask = some_ask (sym a.1 ∙ here) in
      subst (λ (x : StoreAsk). SaysTo t.before.base.told x.op (said_to t.before.base known.heard known.told t.place x) out) same a.2

  -- what comes back
  pub comes_back : GivesBack t.before.heap half out.back
  comes_back = gives_back t.before.heap t.before.base.told answer_said t.fits.agrees.6.asked half out.back t.fits.agrees.6.proper t.fits.agrees.6.halves says.1

  pub same_heap : s.heap ≡ t.before.heap
  same_heap = ap (λ (x : Sight). x.heap) t.is

  pub out_is : s.out ≡ length (body_of (segments_of out.back))
  out_is = let a = ap (λ (x : Sight). x.out) t.is in let b = comes_back.count in let o = t.fits.agrees.4 in omega arith

  pub worker_told : (n : ℕ) → WorkerKeeps (worker_of (there n))
  worker_told n = worker_handed (worker_of t.before) known t.fits.worker

  pub keeps_told : (n : ℕ) → Keeps (there n) d
  keeps_told n = let k = t.fits.keeps in record {
    own = k.own;
    kept = link_handed t.before.base (worker_of t.before) d.link d.talk.kept known k.kept t.redeems.grows;
    fits = k.fits;
    number = k.number;
    index = k.index;
    reads = record { pops = k.reads.pops; rises = k.reads.rises; below = k.reads.below; taken = k.reads.taken };
    writes = record { pushes = k.writes.pushes; texts = k.writes.texts; rises = k.writes.rises; below = k.writes.below; written = k.writes.written };
    read = k.read;
    refusal = k.refusal;
    final = k.final;
    due = k.due;
  }

  none_due : record t.before.due { store = t.before.due.store - 1 } ≡ nothing_due
  none_due = ap (λ (x : Due). record x { store = x.store - 1 }) t.fits.agrees.7

  -- what it heard
  heard : (P : StoreAnswer → Type 0) → P out.answer → HeardOf P (there 0) d
  heard P is = let p = t.fits.agrees.6 in record {
    asked = p.asked;
    asks = p.asks;
    sequence = sequence;
    drawn = p.drawn;
    place = t.place;
    token = t.token.token.0;
    here = subst (λ (n : ℕ). Among (n, (t.token.token.0, pending_ask)) t.before.store.submitted) own_place p.here;
    outcome = out;
    admitted = t.redeems.admitted;
    below = t.redeems.below;
    is = is;
  }

  -- a link that is over there
  pub over_log : (z : Sight) → z ≡ there 0 → IsLogFault out.answer → Fits ports z d (Over cause.LogFault)
  over_log z e is = let g = t.fits.agrees in subst (λ (x : Sight). Fits ports x d (Over cause.LogFault)) (sym e) (record { agrees = (g.2, g.3, refl, g.1, g.0.0, none_due, heard IsLogFault is); worker = worker_told 0; keeps = keeps_told 0 })

  pub over_memory : (z : Sight) → z ≡ there 0 → IsMemoryFault out.answer → Fits ports z d (Over cause.NoMemory)
  over_memory z e is = let g = t.fits.agrees in subst (λ (x : Sight). Fits ports x d (Over cause.NoMemory)) (sym e) (record { agrees = (g.2, g.3, refl, g.1, g.0.0, none_due, heard IsMemoryFault is); worker = worker_told 0; keeps = keeps_told 0 })

  pub over_lost : (z : Sight) → z ≡ there 0 → Fits ports z d (Over cause.Lost)
  over_lost z e = subst (λ (x : Sight). Fits ports x d (Over cause.Lost)) (sym e) (record { agrees = tt; worker = worker_told 0; keeps = keeps_told 0 })

  -- the sight once what came back was let go, and once it has so many halves
  pub let_go_is : (y z : Sight) → y ≡ s → z ≡ record y { out = y.out - length (body_of (segments_of out.back)) } → z ≡ there 0
  let_go_is y z a b =
      let none : t.before.out + halves_back out - length (body_of (segments_of out.back)) ≡ 0 = (let o = out_is in let e = ap (λ (x : Sight). x.out) t.is in omega arith) in
      b ∙ ap (λ (x : Sight). record x { out = x.out - length (body_of (segments_of out.back)) }) (a ∙ there_is) ∙ ap there none

  pub with_out_is : (y z : Sight) (n : ℕ) → y ≡ s → z ≡ record y { out = n } → z ≡ there n
  with_out_is y z n a b = b ∙ ap (λ (x : Sight). record x { out = n }) (a ∙ there_is)

  pub plain_out_is : (z : Sight) → z ≡ s → z ≡ there (length (body_of (segments_of out.back)))
  plain_out_is z a = a ∙ there_is ∙ ap there (let o = out_is in let e = ap (λ (x : Sight). x.out) t.is in omega arith)

  -- the reply is at hand, and its body
  pub drafted : (z : Sight) (body : Option (List HalfValue)) → z ≡ there (length (body_of body)) → AreOf t.before.heap (body_of body) → length (body_of body) ≤ 1 → length (array_bytes (body_of body)) ≤ 65536 → IsSent out.answer body
      → reply_for out ≡ Some (answer_as out.answer (array_bytes (body_of body)))
      → Fits ports z (with_reply d (record { answer = out.answer; sequence = sequence; body = body })) (Replying (record { answer = out.answer; sequence = sequence; body = body }))
  drafted z body e heap few bytes sent replies =
      let g = t.fits.agrees in
      let p = g.6 in
      let draft : Draft = record { answer = out.answer; sequence = sequence; body = body } in
      let n = length (body_of body) in
      let k = keeps_told n in
      subst (λ (x : Sight). Fits ports x (with_reply d draft) (Replying draft)) (sym e) (record {
        agrees = (
          g.0,
          g.1,
          g.2,
          g.3,
          refl,
          record {
            worker = refl;
            drawn = p.drawn;
            replied = subst (IsReplied t.before.base (worker_of (there n)) d.talk.request (reply_as d.talk.kept.worker draft)) (sym p.asks)
                (link_answered t.before.base (worker_of t.before) known d.talk.request (reply_as d.talk.kept.worker draft) pending_ask p.place t.token.token.0 t.place p.here refl t.redeems.own
                (outcome_told t.before.base known.heard known.told t.place out (answer_as out.answer (array_bytes (body_of body))) t.redeems.admitted replies) t.redeems.below);
          },
          heap,
          few,
          bytes,
          sent,
          refl,
          none_due,
        );
        worker = worker_told n;
        keeps = record {
          own = k.own;
          kept = k.kept;
          fits = k.fits;
          number = k.number;
          index = k.index;
          reads = record { pops = k.reads.pops; rises = k.reads.rises; below = k.reads.below; taken = k.reads.taken };
          writes = record { pushes = k.writes.pushes; texts = k.writes.texts; rises = k.writes.rises; below = k.writes.below; written = k.writes.written };
          read = k.read;
          refusal = k.refusal;
          final = k.final;
          due = k.due;
        };
      })

  -- what is replied where a value was stored, or one was found
  pub stored_told : (v : ℕ) → out.answer ≡ said.Stored v → reply_for out ≡ Some (answer_as out.answer (array_bytes (body_of (segments_of out.back))))
  stored_told v e = stored_as t.before.base.told answer_said t.fits.agrees.6.asked out v (of_op t.before.base.limit t.place (standing t.before.base.limit t.before.base.records (struck_at known.told) (take t.place known.heard)) pending_ask (struck_at known.told t.place)) says e

  pub found_told : (v : ℕ) → out.answer ≡ said.Found v → reply_for out ≡ Some (answer_as out.answer (array_bytes (body_of (where_bytes (segments_of out.back)))))
  found_told v e = found_as t.before.base.told answer_said t.fits.agrees.6.asked out v (of_op t.before.base.limit t.place (standing t.before.base.limit t.before.base.records (struck_at known.told) (take t.place known.heard)) pending_ask (struck_at known.told t.place)) says e

-- The head of a reply, and what follows it.
pub frame_is : (answer : StoreAnswer) (body : Option (List HalfValue)) (kind version worker sequence : ℕ) → IsSent answer body → Says answer kind version → frame kind worker sequence version (array_bytes (body_of body)) ≡ spelling (record { worker = worker; sequence = sequence; answer = answer_as answer (array_bytes (body_of body)) })
frame_is (said.Stored v) body kind version worker sequence sent says = ap (λ (k : ℕ). frame k worker sequence version (array_bytes (body_of body))) says.0 ∙ ap (λ (n : ℕ). frame 0x81 worker sequence n (array_bytes (body_of body))) says.1
frame_is (said.Found v) body kind version worker sequence sent says = ap (λ (k : ℕ). frame k worker sequence version (array_bytes (body_of body))) says.0 ∙ ap (λ (n : ℕ). frame 0x82 worker sequence n (array_bytes (body_of body))) says.1
frame_is (said.Missing v) body kind version worker sequence sent says = ap (λ (k : ℕ). frame k worker sequence version (array_bytes (body_of body))) says.0 ∙ ap (λ (n : ℕ). frame 0x83 worker sequence n (array_bytes (body_of body))) says.1 ∙ ap (λ (b : Option (List HalfValue)). frame 0x83 worker sequence v (array_bytes (body_of b))) sent
frame_is (said.Full v) body kind version worker sequence sent says = ap (λ (k : ℕ). frame k worker sequence version (array_bytes (body_of body))) says.0 ∙ ap (λ (n : ℕ). frame 0x86 worker sequence n (array_bytes (body_of body))) says.1 ∙ ap (λ (b : Option (List HalfValue)). frame 0x86 worker sequence v (array_bytes (body_of b))) sent
frame_is said.Fault body kind version worker sequence sent says = absurd sent
frame_is (said.Broken p) body kind version worker sequence sent says = absurd sent
frame_is said.NoMemory body kind version worker sequence sent says = absurd sent
frame_is (said.Stopped p) body kind version worker sequence sent says = absurd sent
frame_is said.Halted body kind version worker sequence sent says = absurd sent

-- an answer that is replied is in range
pub answer_fits : (answer : StoreAnswer) (body : Option (List HalfValue)) (kind version : ℕ) (bytes : List ℕ) → IsSent answer body → Says answer kind version → version ≤ 18446744073709551615 → length bytes ≤ 65536 → IsAnswer (answer_as answer bytes)
answer_fits (said.Stored v) body kind version bytes sent says low few = (subst (λ (n : ℕ). n ≤ 18446744073709551615) says.1 low, few)
answer_fits (said.Found v) body kind version bytes sent says low few = (subst (λ (n : ℕ). n ≤ 18446744073709551615) says.1 low, few)
answer_fits (said.Missing v) body kind version bytes sent says low few = subst (λ (n : ℕ). n ≤ 18446744073709551615) says.1 low
answer_fits (said.Full v) body kind version bytes sent says low few = subst (λ (n : ℕ). n ≤ 18446744073709551615) says.1 low
answer_fits said.Fault body kind version bytes sent says low few = absurd sent
answer_fits (said.Broken p) body kind version bytes sent says low few = absurd sent
answer_fits said.NoMemory body kind version bytes sent says low few = absurd sent
answer_fits (said.Stopped p) body kind version bytes sent says low few = absurd sent
answer_fits said.Halted body kind version bytes sent says low few = absurd sent

pub reply_next : (ports : ℕ) (a b : Sight) (d : DeskValue) (draft : Draft) (head : HalfValue) → Fits ports a d (Replying draft) → b ≡ record a { out = a.out + 1 } → head.heap ≡ a.heap
    → array_bytes (head ∷ body_of draft.body) ≡ spelling (reply_as d.talk.kept.worker draft) → IsAnswer (answer_as draft.answer (array_bytes (body_of draft.body))) → draft.sequence ≤ 18446744073709551615
    → Fits ports b d (Sending (head ∷ body_of draft.body) None)
reply_next ports a b d draft head f is heap spelled answer most =
    let g = f.agrees in
    let k = f.keeps in
    let reply : Reply = reply_as d.talk.kept.worker draft in
    let fits : IsReply reply = record { worker = (let n = k.number.2 in let m = k.number.0 in omega arith); sequence = most; answer = answer } in
    subst (λ (x : Sight). Fits ports x d (Sending (head ∷ body_of draft.body) None)) (sym is) (record {
      agrees = (
        g.0,
        g.1,
        g.2,
        g.3,
        (let o = g.4 in omega arith),
        record { worker = g.5.worker; drawn = g.5.drawn; replied = g.5.replied },
        (heap, g.6),
        spelled ∙ ap spelling (sym g.10),
        subst IsReply (sym g.10) fits,
        g.11,
      );
      worker = f.worker;
      keeps = record {
        own = k.own;
        kept = k.kept;
        fits = k.fits;
        number = k.number;
        index = k.index;
        reads = k.reads;
        writes = k.writes;
        read = k.read;
        refusal = k.refusal;
        final = k.final;
        due = k.due;
      };
    })
