-- What a link keeps whatever others do.
use Rattle.std.specs.Prelude.{◌≡◌, ℕ, ◌<◌, ◌≤◌, ◌++◌, List, [], ◌∷◌, Option, length}
use Rattle.std.proofs.Common.{sym, ◌∙◌, ap, arith, subst}
use Rattle.demi_heap.specs.Seen.{HeapId}
use Rattle.demi_port_core.specs.History.{AllAbove, Among}
use Rattle.demi_port_core.specs.Trails.{Behind, NoneBelow}
use Rattle.demi_port_core.specs.declared.trail.Trail.{Trail}
use Rattle.demi_sga.specs.Arrays.{AreOf, LentValue}
use Rattle.demi_store.specs.Laws.{Admits, StoreBasis}
use Rattle.demi_store.specs.Steady.{admits_steady}
use Rattle.demi_store.specs.declared.answer.StoreAnswer.{StoreAnswer}
use Rattle.demi_store.specs.declared.ask.StoreAsk.{StoreAsk}
use Rattle.demi_store.specs.declared.out.StoreOut.{StoreOut}
use Rattle.demi_store.specs.declared.told.StoreTold.{StoreTold}
use Rattle.demi_streamq.specs.declared.rx_op.RxOp.{RxOp}
use Rattle.demi_streamq.specs.declared.rx_op.RxOp.TheVariants.{Pop}
use Rattle.demi_streamq.specs.declared.rx_told.RxTold.{RxTold}
use Rattle.demi_streamq.specs.declared.tx_op.TxOp.{TxOp}
use Rattle.demi_served.specs.Asking.{ask_of}
use Rattle.demi_served.specs.Keeps.{LinkKeeps, IsReplied}
use Rattle.demi_served.proofs.Stepping.{link_beside, link_holds_ask, link_holds_draw, link_waits}
use Rattle.demi_link.specs.Fitting.{Agrees, AllTaken, AllWritten, Fits, HasHalves, HeardOf, IsOver, IsPending, IsPopping, IsPushing, IsReady, Keeps, Reads, Writes, body_of, places}
use Rattle.demi_link.specs.Heard.{CameAt, IsLogFault, IsMemoryFault, IsWriteFault}
use Rattle.demi_link.specs.Sights.{LeavesBe, Side, Sight, worker_of}
use Rattle.demi_link.specs.Talks.{DeskValue}
use Rattle.demi_link.specs.declared.phase.Cause.{Cause}
use Rattle.demi_link.specs.declared.phase.Cause.TheVariants as cause
use Rattle.demi_link.specs.declared.phase.Phase.{Phase}
use Rattle.demi_link.specs.declared.phase.Phase.TheVariants.{Reading, Popping, Asking, Holding, Waiting, Replying, Sending, Pushing, Over, Between}

all_above : (place floor : ℕ) (later : List (ℕ × StoreTold)) → place < floor → NoneBelow floor later → AllAbove place later
all_above place floor [] l n = tt
all_above place floor (t ∷ later) l n = (let m = n.0 in omega arith, all_above place floor later l n.1)

-- what the store said stays said as its pass is handed more
admits_grows : (b : StoreBasis) (known later : Trail StoreAsk StoreTold) (p : ℕ) (o : StoreOut) → Behind later known → p < known.floor → Admits b known.heard known.told p o → Admits b later.heard later.told p o
admits_grows b known later p o g low h =
    let above = all_above p known.floor g.told.0 low g.told.2 in
    let there : Admits b (known.heard ++ g.heard.0) (known.told ++ g.told.0) p o = (admits_steady b known.heard g.heard.0 known.told g.told.0 p o o h above).1 h in
    subst (λ (z : List StoreAsk). Admits b z later.told p o) (sym g.heard.1) (subst (λ (z : List (ℕ × StoreTold)). Admits b (known.heard ++ g.heard.0) z p o) (sym g.told.1) there)

module _ (a b : Sight) (d : DeskValue) (g : LeavesBe d.link a b) where
  pub keeps_beside : Keeps a d → Keeps b d
  keeps_beside k = record {
    own = (link_beside a.base (worker_of a) (worker_of b) d.link (record d.talk.kept { replies = [] }) (record { own = k.own; replied = tt }) g.worker).own;
    kept = subst (λ (base : StoreBasis). LinkKeeps base (worker_of b) d.link d.talk.kept) (sym g.base) (link_beside a.base (worker_of a) (worker_of b) d.link d.talk.kept k.kept g.worker);
    fits = k.fits;
    number = (k.number.0 ∙ sym g.number, k.number.1 ∙ sym g.number, subst_le g.number k.number.2);
    index = k.index;
    reads = subst (λ (p : Side RxOp RxTold). Reads p d.talk) (sym g.rx) k.reads;
    writes = subst (λ (p : Side TxOp ℕ). Writes p d.talk) (sym g.tx) k.writes;
    read = k.read;
    refusal = k.refusal;
    final = k.final;
    due = k.due;
  }
    where
      subst_le : {m n : ℕ} → n ≡ m → m ≤ 255 → n ≤ 255
      subst_le e h = subst (λ (x : ℕ). x ≤ 255) (sym e) h

  taken_beside : AllTaken a d → AllTaken b d
  taken_beside h = ap (λ (p : Side RxOp RxTold). places p.submitted) g.rx ∙ h

  written_beside : AllWritten a d → AllWritten b d
  written_beside h = ap (λ (p : Side TxOp ℕ). places p.submitted) g.tx ∙ h

  pending_beside : (token sequence : ℕ) (half : Option LentValue) → IsPending a d token sequence half → IsPending b d token sequence half
  pending_beside token sequence half p = record {
    asked = p.asked;
    asks = p.asks;
    proper = p.proper;
    halves = subst (λ (h : HeapId). HasHalves h half p.asked) (sym g.heap) p.halves;
    place = p.place;
    here = link_holds_ask (worker_of a) (worker_of b) d.link _ g.worker p.here;
    drawn = link_holds_draw (worker_of a) (worker_of b) d.link sequence _ g.worker p.drawn;
  }

  ready_beside : IsReady a d → IsReady b d
  ready_beside r = record {
    worker = r.worker;
    drawn = link_holds_draw (worker_of a) (worker_of b) d.link d.talk.reply.sequence _ g.worker r.drawn;
    replied = subst (λ (base : StoreBasis). IsReplied base (worker_of b) d.talk.request d.talk.reply (ask_of d.link (length d.talk.kept.replies) d.talk.request)) (sym g.base)
        (link_waits a.base (worker_of a) (worker_of b) d.link d.talk.request d.talk.reply (ask_of d.link (length d.talk.kept.replies) d.talk.request) g.worker r.replied);
  }

  popping_beside : (token : ℕ) → IsPopping a d token → IsPopping b d token
  popping_beside token p = record {
    place = p.place;
    last = ap (λ (x : Side RxOp RxTold). places x.submitted) g.rx ∙ p.last;
    here = subst (λ (x : Side RxOp RxTold). Among (p.place, (token, Pop 4096)) x.submitted) (sym g.rx) p.here;
  }

  pushing_beside : (token : ℕ) → IsPushing a d token → IsPushing b d token
  pushing_beside token p = record {
    place = p.place;
    said = p.said;
    last = ap (λ (x : Side TxOp ℕ). places x.submitted) g.tx ∙ p.last;
    here = subst (λ (x : Side TxOp ℕ). Among (p.place, (token, p.said)) x.submitted) (sym g.tx) p.here;
  }

  heard_beside : (P : StoreAnswer → Type 0) → HeardOf P a d → HeardOf P b d
  heard_beside P h =
      let known = g.worker.known in
      record {
        asked = h.asked;
        asks = h.asks;
        sequence = h.sequence;
        drawn = link_holds_draw (worker_of a) (worker_of b) d.link h.sequence _ g.worker h.drawn;
        place = h.place;
        token = h.token;
        here = link_holds_ask (worker_of a) (worker_of b) d.link _ g.worker h.here;
        outcome = h.outcome;
        admitted = subst (λ (base : StoreBasis). Admits base b.store.known.heard b.store.known.told h.place h.outcome) (sym g.base) (admits_grows a.base a.store.known b.store.known h.place h.outcome known h.below h.admitted);
        below = (let up = known.floor in let low = h.below in omega arith);
        is = h.is;
      }

  over_beside : (c : Cause) → IsOver a d c → IsOver b d c
  over_beside cause.Clean h = (taken_beside h.0, written_beside h.1, g.out ∙ h.2, h.3, h.4, h.5, g.due ∙ h.6, h.7)
  over_beside cause.Bye h = (taken_beside h.0, written_beside h.1, g.out ∙ h.2, h.3, h.4, h.5, g.due ∙ h.6)
  over_beside (cause.Refused code) h = (taken_beside h.0, written_beside h.1, g.out ∙ h.2, h.3, h.4, h.5, g.due ∙ h.6)
  over_beside cause.ReadFault h = (taken_beside h.0, written_beside h.1, g.out ∙ h.2, h.3, h.4, g.due ∙ h.5, h.6)
  over_beside cause.WriteFault h = (taken_beside h.0, (h.1.0, ap (λ (x : Side TxOp ℕ). places x.submitted) g.tx ∙ h.1.1, subst (λ (x : Side TxOp ℕ). CameAt IsWriteFault x h.1.0) (sym g.tx) h.1.2), g.out ∙ h.2, h.3, g.due ∙ h.4)
  over_beside cause.LogFault h = (taken_beside h.0, written_beside h.1, g.out ∙ h.2, h.3, h.4, g.due ∙ h.5, heard_beside IsLogFault h.6)
  over_beside cause.NoMemory h = (taken_beside h.0, written_beside h.1, g.out ∙ h.2, h.3, h.4, g.due ∙ h.5, heard_beside IsMemoryFault h.6)
  over_beside cause.Lost h = tt

  agrees_beside : (ports : ℕ) (phase : Phase) → Agrees ports a d phase → Agrees ports b d phase
  agrees_beside ports Reading h = (h.0, h.1, taken_beside h.2, written_beside h.3, g.out ∙ h.4, g.due ∙ h.5)
  agrees_beside ports (Popping token) h = (h.0, h.1, h.2, h.3, h.4, popping_beside token.token.0 h.5, written_beside h.6, g.out ∙ h.7, g.due ∙ h.8, h.9)
  agrees_beside ports (Asking kind) h = (h.0, h.1, h.2, taken_beside h.3, written_beside h.4, g.out ∙ h.5, g.due ∙ h.6)
  agrees_beside ports (Holding half asked) h = (h.0, h.1, h.2, taken_beside h.3, written_beside h.4, g.out ∙ h.5, h.6, h.7, subst (λ (x : HeapId). HasHalves x half asked) (sym g.heap) h.8, g.due ∙ h.9)
  agrees_beside ports (Waiting token sequence half) h = (h.0, h.1, taken_beside h.2, written_beside h.3, g.out ∙ h.4, h.5, pending_beside token.token.0 sequence half h.6, g.due ∙ h.7)
  agrees_beside ports (Replying draft) h = (h.0, h.1, taken_beside h.2, written_beside h.3, g.out ∙ h.4, ready_beside h.5, subst (λ (x : HeapId). AreOf x (body_of draft.body)) (sym g.heap) h.6, h.7, h.8, h.9, h.10, g.due ∙ h.11)
  agrees_beside ports (Sending sga behind) h = (h.0, h.1, taken_beside h.2, written_beside h.3, g.out ∙ h.4, ready_beside h.5, subst (λ (x : HeapId). AreOf x sga) (sym g.heap) h.6, h.7, h.8, g.due ∙ h.9)
  agrees_beside ports (Pushing token behind) h = (h.0, h.1, taken_beside h.2, h.3, pushing_beside token.token.0 h.4, g.out ∙ h.5, g.due ∙ h.6)
  agrees_beside ports (Over cause) h = over_beside cause h
  agrees_beside ports Between h = h

  pub fits_beside : (ports after : ℕ) (phase : Phase) → after ≡ ports → Fits ports a d phase → Fits after b d phase
  fits_beside ports after phase p f = record {
    agrees = subst (λ (m : ℕ). Agrees m b d phase) (sym p) (agrees_beside ports phase f.agrees);
    worker = g.keeps f.worker;
    keeps = keeps_beside f.keeps;
  }
