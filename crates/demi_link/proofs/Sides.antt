-- What is so of a link's two passes after each step at them.
use Rattle.std.specs.Prelude.{◌≡◌, ℕ, ◌+◌, ◌<◌, ◌≤◌, List, [], ◌∷◌, ◌++◌, map, refl}
use Rattle.std.specs.List.{AllByRecursion}
use Rattle.std.proofs.Common.{sym, ◌∙◌, ap, arith, subst}
use Rattle.demi_device.specs.Serving.{RiseFrom}
use Rattle.demi_heap.specs.Seen.{HalfValue, HeapId}
use Rattle.demi_port_core.specs.Trails.{Behind}
use Rattle.demi_port_core.specs.declared.trail.Trail.{Trail}
use Rattle.demi_spec.specs.Reply.{spelling}
use Rattle.demi_streamq.specs.Receiving.{RxAdmits, IsFrom}
use Rattle.demi_streamq.specs.RxSteady.{rx_steady}
use Rattle.demi_streamq.specs.Sending.{TxAdmits, array_bytes}
use Rattle.demi_streamq.specs.TxSteady.{tx_steady}
use Rattle.demi_streamq.specs.declared.rx_op.RxOp.{RxOp}
use Rattle.demi_streamq.specs.declared.rx_op.RxOp.TheVariants.{Pop}
use Rattle.demi_streamq.specs.declared.rx_out.RxOut.{RxOut}
use Rattle.demi_streamq.specs.declared.rx_told.RxTold.{RxTold}
use Rattle.demi_streamq.specs.declared.tx_op.TxOp.{TxOp}
use Rattle.demi_streamq.specs.declared.tx_op.TxOp.TheVariants.{Push, Close, Stop}
use Rattle.demi_streamq.specs.declared.tx_out.TxOut.{TxOut}
use Rattle.demi_streamq.specs.declared.tx_out.TxOut.TheVariants.{Pushed}
use Rattle.demi_served.specs.Steps.{after_reply}
use Rattle.demi_served.specs.Writing.{texts_of}
use Rattle.demi_link.specs.Fitting.{IsPush, IsTaken, IsWritten, Reads, Writes, ops_of}
use Rattle.demi_link.specs.Noting.{after_taken}
use Rattle.demi_link.specs.Sights.{Redeems, Side}
use Rattle.demi_link.specs.Talks.{TalkValue}
use Rattle.demi_link.proofs.Lists.{above_floor, all_as, all_next, map_next, ops_next, rises_next}

-- a pass that was handed more still has what it had
pub taken_grows : (p : Side RxOp RxTold) (known : Trail RxOp RxTold) (q : Side RxOp RxTold) (o : ℕ × RxOut) → q.known ≡ known → Behind known p.known → IsTaken p o → IsTaken q o
taken_grows p known q o is b h =
    let r : Side RxOp RxTold = record q { known = known } in
    let told = b.told in
    let above = above_floor o.0 p.known.floor told.0 h.1 told.2 in
    let there : RxAdmits (p.known.heard ++ b.heard.0) (p.known.told ++ told.0) o.0 o.1 = (rx_steady p.known.heard b.heard.0 p.known.told told.0 o.0 o.1 o.1 h.0 above).1 h.0 in
    let now : RxAdmits known.heard known.told o.0 o.1 = subst (λ (z : List RxOp). RxAdmits z known.told o.0 o.1) (sym b.heard.1) (subst (λ (z : List (ℕ × RxTold)). RxAdmits (p.known.heard ++ b.heard.0) z o.0 o.1) (sym told.1) there) in
    let low : o.0 < known.floor = (let f = b.floor in let l = h.1 in omega arith) in
    subst (λ (z : Trail RxOp RxTold). RxAdmits z.heard z.told o.0 o.1 × (o.0 < z.floor)) (sym is) (now, low)

pub written_grows : (p : Side TxOp ℕ) (known : Trail TxOp ℕ) (q : Side TxOp ℕ) (place : ℕ) → q.known ≡ known → Behind known p.known → IsWritten p place → IsWritten q place
written_grows p known q place is b h =
    let told = b.told in
    let above = above_floor place p.known.floor told.0 h.1 told.2 in
    let there : TxAdmits (p.known.heard ++ b.heard.0) (p.known.told ++ told.0) place Pushed = (tx_steady p.known.heard b.heard.0 p.known.told told.0 place Pushed Pushed h.0 above).1 h.0 in
    let now : TxAdmits known.heard known.told place Pushed = subst (λ (z : List TxOp). TxAdmits z known.told place Pushed) (sym b.heard.1) (subst (λ (z : List (ℕ × ℕ)). TxAdmits (p.known.heard ++ b.heard.0) z place Pushed) (sym told.1) there) in
    let low : place < known.floor = (let f = b.floor in let l = h.1 in omega arith) in
    subst (λ (z : Trail TxOp ℕ). TxAdmits z.heard z.told place Pushed × (place < z.floor)) (sym is) (now, low)

-- it popped
pub reads_popped : (p : Side RxOp RxTold) (k : TalkValue) (place token : ℕ) → Reads p k → p.seen ≤ place → Reads (record p { seen = place + 1; submitted = p.submitted ++ (place, (token, Pop 4096)) ∷ [] }) k
reads_popped p k place token r up = record {
  pops = all_next (λ (x : ℕ × (ℕ × RxOp)). x.1.1 ≡ Pop 4096) p.submitted (place, (token, Pop 4096)) r.pops refl;
  rises = rises_next 0 p.seen p.submitted (place, (token, Pop 4096)) (omega arith) r.rises r.below up;
  below = all_next (λ (x : ℕ × (ℕ × RxOp)). x.0 < place + 1) p.submitted (place, (token, Pop 4096)) (all_as (λ (x : ℕ × (ℕ × RxOp)). x.0 < p.seen) (λ (x : ℕ × (ℕ × RxOp)). x.0 < place + 1) p.submitted (λ x h. omega arith) r.below) (omega arith);
  taken = r.taken;
}

-- its pop came to an outcome
pub reads_taken : (heap : HeapId) (p q : Side RxOp RxTold) (k : TalkValue) (place token : ℕ) (o : RxOut) → Reads p k → Redeems (λ h t n. RxAdmits h t n o × IsFrom heap o) token place p q → Reads q (after_taken k place o)
reads_taken heap p q k place token o r e =
    let same : q.submitted ≡ p.submitted = ap (λ (z : Side RxOp RxTold). z.submitted) e.side in
    let seen : q.seen ≡ p.seen = ap (λ (z : Side RxOp RxTold). z.seen) e.side in
    record {
      pops = subst (AllByRecursion (λ (x : ℕ × (ℕ × RxOp)). x.1.1 ≡ Pop 4096)) (sym same) r.pops;
      rises = subst (RiseFrom 0) (sym same) r.rises;
      below = subst (λ (n : ℕ). AllByRecursion (λ (x : ℕ × (ℕ × RxOp)). x.0 < n) q.submitted) (sym seen) (subst (AllByRecursion (λ (x : ℕ × (ℕ × RxOp)). x.0 < p.seen)) (sym same) r.below);
      taken = all_next (IsTaken q) k.outs (place, o) (all_as (IsTaken p) (IsTaken q) k.outs (λ x h. taken_grows p q.known q x refl e.grows h) r.taken) (e.admitted.0, e.below);
    }

-- a pop came to an outcome that the link has no more use for
pub reads_lost : (heap : HeapId) (p q : Side RxOp RxTold) (k : TalkValue) (place token : ℕ) (o : RxOut) → Reads p k → Redeems (λ h t n. RxAdmits h t n o × IsFrom heap o) token place p q → Reads q k
reads_lost heap p q k place token o r e =
    let same : q.submitted ≡ p.submitted = ap (λ (z : Side RxOp RxTold). z.submitted) e.side in
    let seen : q.seen ≡ p.seen = ap (λ (z : Side RxOp RxTold). z.seen) e.side in
    record {
      pops = subst (AllByRecursion (λ (x : ℕ × (ℕ × RxOp)). x.1.1 ≡ Pop 4096)) (sym same) r.pops;
      rises = subst (RiseFrom 0) (sym same) r.rises;
      below = subst (λ (n : ℕ). AllByRecursion (λ (x : ℕ × (ℕ × RxOp)). x.0 < n) q.submitted) (sym seen) (subst (AllByRecursion (λ (x : ℕ × (ℕ × RxOp)). x.0 < p.seen)) (sym same) r.below);
      taken = all_as (IsTaken p) (IsTaken q) k.outs (λ x h. taken_grows p q.known q x refl e.grows h) r.taken;
    }

texts_next : (ops : List TxOp) (sga : List HalfValue) → texts_of (ops ++ Push sga ∷ []) ≡ texts_of ops ++ array_bytes sga ∷ []
texts_next [] sga = refl
texts_next (Push a ∷ ops) sga = ap (λ l. array_bytes a ∷ l) (texts_next ops sga)
texts_next (Close ∷ ops) sga = texts_next ops sga
texts_next (Stop ∷ ops) sga = texts_next ops sga

-- it pushed the reply at hand
pub writes_pushed : (p : Side TxOp ℕ) (k : TalkValue) (place token : ℕ) (sga : List HalfValue) → Writes p k → p.seen ≤ place → array_bytes sga ≡ spelling k.reply
    → Writes (record p { seen = place + 1; submitted = p.submitted ++ (place, (token, Push sga)) ∷ [] }) (record k { kept = after_reply k.kept k.reply })
writes_pushed p k place token sga w up spelled =
    let x : ℕ × (ℕ × TxOp) = (place, (token, Push sga)) in
    record {
      pushes = all_next (λ (x : ℕ × (ℕ × TxOp)). IsPush x.1.1) p.submitted x w.pushes tt;
      texts = ap texts_of (ops_next p.submitted x) ∙ texts_next (ops_of p.submitted) sga ∙ ap (λ (l : List (List ℕ)). l ++ array_bytes sga ∷ []) w.texts ∙ ap (λ (t : List ℕ). map spelling k.kept.replies ++ t ∷ []) spelled ∙ sym (map_next spelling k.kept.replies k.reply);
      rises = rises_next 0 p.seen p.submitted x (omega arith) w.rises w.below up;
      below = all_next (λ (x : ℕ × (ℕ × TxOp)). x.0 < place + 1) p.submitted x (all_as (λ (x : ℕ × (ℕ × TxOp)). x.0 < p.seen) (λ (x : ℕ × (ℕ × TxOp)). x.0 < place + 1) p.submitted (λ x h. omega arith) w.below) (omega arith);
      written = w.written;
    }

-- a push came to an outcome
pub writes_tried : (p q : Side TxOp ℕ) (k : TalkValue) (place token : ℕ) (o : TxOut) → Writes p k → Redeems (λ h t n. TxAdmits h t n o) token place p q → Writes q k
writes_tried p q k place token o w e =
    let same : q.submitted ≡ p.submitted = ap (λ (z : Side TxOp ℕ). z.submitted) e.side in
    let seen : q.seen ≡ p.seen = ap (λ (z : Side TxOp ℕ). z.seen) e.side in
    record {
      pushes = subst (AllByRecursion (λ (x : ℕ × (ℕ × TxOp)). IsPush x.1.1)) (sym same) w.pushes;
      texts = ap (λ (l : List (ℕ × (ℕ × TxOp))). texts_of (ops_of l)) same ∙ w.texts;
      rises = subst (RiseFrom 0) (sym same) w.rises;
      below = subst (λ (n : ℕ). AllByRecursion (λ (x : ℕ × (ℕ × TxOp)). x.0 < n) q.submitted) (sym seen) (subst (AllByRecursion (λ (x : ℕ × (ℕ × TxOp)). x.0 < p.seen)) (sym same) w.below);
      written = all_as (IsWritten p) (IsWritten q) k.written (λ x h. written_grows p q.known q x refl e.grows h) w.written;
    }

-- it was written
pub writes_written : (p q : Side TxOp ℕ) (k : TalkValue) (place token : ℕ) → Writes p k → Redeems (λ h t n. TxAdmits h t n Pushed) token place p q → Writes q (record k { written = k.written ++ place ∷ [] })
writes_written p q k place token w e = let t = writes_tried p q k place token Pushed w e in record {
  pushes = t.pushes;
  texts = t.texts;
  rises = t.rises;
  below = t.below;
  written = all_next (IsWritten q) k.written place t.written (e.admitted, e.below);
}
