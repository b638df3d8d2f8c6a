-- What one link of a session came to: the worker that took it up listed its end, and no other did anything at its ports.
use Rattle.std.proofs.Common.{◌≡◌, ◌≢◌, ◌∙◌, ◌⊎◌, ℕ, ◌+◌, ◌*◌, ◌<◌, List, [], ◌∷◌, Option, Some, length, map, get_or, refl, arith, ap, sym, subst, inl, inr}
use Rattle.std.specs.Prelude.{slice_get}
use Rattle.demi_heap.specs.Seen.{HeapId}
use Rattle.demi_port.specs.Seen.{PortId}
use Rattle.demi_port_core.specs.History.{Among}
use Rattle.demi_link.specs.Ends.{IsKnown}
use Rattle.demi_link.specs.Fitting.{Fits}
use Rattle.demi_link.specs.Sights.{Sight, side_of, worker_of}
use Rattle.demi_link.specs.Talks.{DeskValue}
use Rattle.demi_link.specs.declared.phase.Cause.{Cause}
use Rattle.demi_link.specs.declared.phase.Phase.TheVariants.{Over}
use Rattle.demi_pdpix.specs.Returning.{rx_at, tx_at}
use Rattle.demi_pdpix.specs.Seen.{RxPass, TxPass}
use Rattle.demi_served.specs.Steps.{GoesBeside}
use Rattle.demi_served.specs.Talks.{LinkRun, Talk}
use Rattle.demi_streamq.specs.Receiving.{RxAdmits}
use Rattle.demi_streamq.specs.Sending.{TxAdmits}
use Rattle.demi_streamq.specs.declared.rx_op.RxOp.{RxOp}
use Rattle.demi_streamq.specs.declared.rx_op.RxOp.TheVariants as rx_op
use Rattle.demi_streamq.specs.declared.rx_out.RxOut.{RxOut}
use Rattle.demi_streamq.specs.declared.rx_told.RxTold.{RxTold}
use Rattle.demi_streamq.specs.declared.tx_op.TxOp.{TxOp}
use Rattle.demi_streamq.specs.declared.tx_op.TxOp.TheVariants as tx_op
use Rattle.demi_streamq.specs.declared.tx_out.TxOut.{TxOut}
use Rattle.demi_worker.specs.Ending.{IsNew, IsServed, NeverBegan}
use Rattle.demi_worker.specs.Standing.{HasEnd, HasStopped, ended_links}
use Rattle.demi_worker.specs.Stopping.{IsLeft}
use Rattle.demi_worker.specs.declared.ended.Ended.{Ended}
use Rattle.demi_closed.specs.Closed.{OnlyBy}
use Rattle.demi_closed.specs.LinkClosed.{LinkMoved, LinkResult, PortsClosed, WasServed}
use Rattle.demi_closed.specs.ManyLinks.{IsServedBy, LinkEnd, WorkerEnd, worker_then}
use Rattle.demi_closed.proofs.Entries.{each_one}
use Rattle.demi_context.specs.ContextPorts.{Caller, Whole, side_at}
use Rattle.demi_context.specs.ContextSights.{ContextValue, ports_of, sight_of}
use Rattle.demi_crew.specs.Serving.{HasLinks}
use Rattle.demi_gathered.specs.Gathered.{IsGathered, IsListed, IsMember, IsShared, IsShut, LinkShut, Member, callers_of, link_after, link_before, ports_then}
use Rattle.demi_gathered.proofs.Hands.{IsHand}
use Rattle.demi_gathered.proofs.Passes.{added_by, at_many, side_there}
use Rattle.demi_gathered.proofs.Places.{among_at, any_at, each_of, one_at}

-- the end of a link that is listed
listed_end : (k : ℕ) (es : List Ended) → Among k (ended_links es) → (e : Ended) × Among e es × (e.link ≡ k)
listed_end k [] a = absurd a
listed_end k (e ∷ es) (inl i) = (e, inl refl, sym i)
listed_end k (e ∷ es) (inr a) = let r = listed_end k es a in (r.0, inr r.1, r.2)

-- What a link came to: its end, what was read and written, its talk; its worker; and who took it up.
pub record LinkCame {I O : Type 0} (taken : I → ℕ) (left : I → Option (List ℕ)) (read_faults : I → ℕ) (reads : I → ℕ → Option (List ℕ) → I → Type 0) (written : O → Option (List ℕ)) (write_faults : O → ℕ)
    (there : ℕ) (crew : List Member) (workers : List WorkerEnd) (k : ℕ) (x : LinkShut I O) : Type 0 where
  pub end : LinkEnd
  pub run : LinkRun
  pub talk : Talk
  pub gathered : IsGathered taken left read_faults reads written write_faults there crew k x end run
  pub result : LinkResult end.cause end.desk run (ports_then x) talk
  pub by : IsServedBy there workers k end
  pub whose : (o : Member) × (slice_get crew end.worker ≡ Some o) × Among k o.numbers

module _ {I O : Type 0} (taken : I → ℕ) (left : I → Option (List ℕ)) (read_faults : I → ℕ) (reads : I → ℕ → Option (List ℕ) → I → Type 0) (written : O → Option (List ℕ)) (write_faults : O → ℕ)
    (demi : Whole) (crew : List Member) (many : ℕ) (has : HasLinks many demi) (shared : IsShared many crew) (members : (j : ℕ) (o : Member) → slice_get crew j ≡ Some o → IsMember demi j o)
    (workers : List WorkerEnd) (k : ℕ) (low : k < many) (x : LinkShut I O) (shut : IsShut taken left read_faults reads written write_faults demi crew k x)
    (n : ℕ) (m : Member) (there : slice_get crew n ≡ Some m) (mine : Among k m.numbers) (w : WorkerEnd) (w_there : slice_get workers n ≡ Some w) (hand : IsHand demi n m w) where
  -- the passes that a worker has of the link's ports
  rx_wide : (j : ℕ) (o : Member) → IsMember demi j o → k < length o.after.rx
  rx_wide j o is = let a = at_many o.after.rx demi.rx is.owes.0.rx in let b = has.0 in omega (arith, low, a, b)

  tx_wide : (j : ℕ) (o : Member) → IsMember demi j o → k < length o.after.tx
  tx_wide j o is = let a = at_many o.after.tx demi.tx is.owes.0.tx in let b = has.1 in omega (arith, low, a, b)

  rx_number : (p : RxPass) (j : ℕ) (o : Member) → IsMember demi j o → (rx_at k p o.after).number ≡ j
  rx_number p j o is = (is.owes.1.3 k p (rx_wide j o is)).0

  tx_number : (p : TxPass) (j : ℕ) (o : Member) → IsMember demi j o → (tx_at k p o.after).number ≡ j
  tx_number p j o is = (is.owes.1.4 k p (tx_wide j o is)).0

  -- what they have is what its context had
  rx_side : (p : RxPass) (j : ℕ) (o : Member) (is : IsMember demi j o) → side_of (rx_at k p o.after) ≡ (sight_of is.served.context k).rx
  rx_side p j o is = side_there o.after.rx k p (rx_wide j o is) ∙ is.no_more.rx k ∙ ap (λ (c : Caller). side_at c.rx k) (sym is.served.caller_is)

  tx_side : (p : TxPass) (j : ℕ) (o : Member) (is : IsMember demi j o) → side_of (tx_at k p o.after) ≡ (sight_of is.served.context k).tx
  tx_side p j o is = side_there o.after.tx k p (tx_wide j o is) ∙ is.no_more.tx k ∙ ap (λ (c : Caller). side_at c.tx k) (sym is.served.caller_is)

  -- another worker did nothing there
  none_else : (j : ℕ) (o : Member) → slice_get crew j ≡ Some o → j ≢ n → Among k o.numbers → ⊥
  none_else j o at differs a = differs (shared.one k j n o m at there a mine)

  still_new : (j : ℕ) (o : Member) (at : slice_get crew j ≡ Some o) → j ≢ n → IsNew j (sight_of (members j o at).served.context k) k
  still_new j o at differs = (members j o at).served.others k (none_else j o at differs)

  rx_idle : (p : RxPass) (j : ℕ) (o : Member) → slice_get crew j ≡ Some o → j ≢ n → (rx_at k p o.after).submitted ≡ []
  rx_idle p j o at differs = ap (λ s. s.submitted) (rx_side p j o (members j o at)) ∙ (still_new j o at differs).fresh.pops

  tx_idle : (p : TxPass) (j : ℕ) (o : Member) → slice_get crew j ≡ Some o → j ≢ n → (tx_at k p o.after).submitted ≡ []
  tx_idle p j o at differs = ap (λ s. s.submitted) (tx_side p j o (members j o at)) ∙ (still_new j o at differs).fresh.pushes

  rx_only : (p : RxPass) (by : ℕ) → by ≡ n → OnlyBy by x.rx_seat (map (rx_at k p) (callers_of crew))
  rx_only p by e = record {
    all = λ j below.
        let o = one_at crew j (let s = shut.rx_passes in omega (arith, below, s)) in
        any_at (λ (q : RxPass). q.number ≡ j) (rx_at k p) (λ (c : Member). c.after) crew j o.0 o.1 (rx_number p j o.0 (members j o.0 o.1));
    others = each_of (λ (q : RxPass). q.number ≢ by → q.submitted ≡ []) (rx_at k p) (λ (c : Member). c.after) crew
        (λ j o at differs. rx_idle p j o at (λ s. differs (rx_number p j o (members j o at) ∙ s ∙ sym e)));
  }

  tx_only : (p : TxPass) (by : ℕ) → by ≡ n → OnlyBy by x.tx_seat (map (tx_at k p) (callers_of crew))
  tx_only p by e = record {
    all = λ j below.
        let o = one_at crew j (let s = shut.tx_passes in omega (arith, below, s)) in
        any_at (λ (q : TxPass). q.number ≡ j) (tx_at k p) (λ (c : Member). c.after) crew j o.0 o.1 (tx_number p j o.0 (members j o.0 o.1));
    others = each_of (λ (q : TxPass). q.number ≢ by → q.submitted ≡ []) (tx_at k p) (λ (c : Member). c.after) crew
        (λ j o at differs. tx_idle p j o at (λ s. differs (tx_number p j o (members j o at) ∙ s ∙ sym e)));
  }

  -- its end
  found : (e : Ended) × Among e m.ended × (e.link ≡ k)
  found = listed_end k m.ended ((hand.member.served.links k).1 mine)

  abbrev end : Ended
  end = found.0

  abbrev context : ContextValue
  context = hand.member.served.context

  abbrev had : Sight
  had = end.had.value

  served : IsServed (ports_of context) end.link end.cause end.talk.value had
  served = each_one (HasEnd (ports_of context)) m.ended end hand.member.served.served found.1

  known : IsKnown end.cause
  known = each_one (λ (e : Ended). IsKnown e.cause) m.ended end hand.member.served.known found.1

  was_left : IsLeft k had (sight_of context k)
  was_left = subst (λ (l : ℕ). IsLeft l had (sight_of context l)) found.2 (each_one (HasStopped (sight_of context)) m.ended end hand.member.served.left found.1)

  had_number : had.number ≡ n
  had_number = sym was_left.beside.number ∙ hand.member.served.number_is

  abbrev link_end : LinkEnd
  link_end = record { worker = n; had = had; desk = served.desk; cause = end.cause }

  listed : IsListed crew k link_end
  listed = record { by = m; there = there; end = end; among = found.1; link = found.2; cause = refl; had = refl; talk = sym served.talk }

  ports_are : ports_of context ≡ 3 + 2 * many
  ports_are = ap (λ (d : Whole). 3 + 2 * length d.rx) hand.member.served.demi_is ∙ ap (λ (l : ℕ). 3 + 2 * l) has.0

  was_served : WasServed (3 + 2 * many) had served.desk end.cause
  was_served = record {
    over = subst (λ (z : ℕ). Fits z had served.desk (Over end.cause) ⊎ NeverBegan z had served.desk end.cause) ports_are served.over;
    known = known;
  }

  -- its ports
  rx_id : (id : PortId HeapId) × (slice_get demi.rx k ≡ Some id)
  rx_id = one_at demi.rx k (let s = has.0 in omega (arith, low, s))

  tx_id : (id : PortId HeapId) × (slice_get demi.tx k ≡ Some id)
  tx_id = one_at demi.tx k (let s = has.1 in omega (arith, low, s))

  rx_pass : (p : RxPass) × (slice_get m.after.rx k ≡ Some p)
  rx_pass = one_at m.after.rx k (rx_wide n m hand.member)

  tx_pass : (p : TxPass) × (slice_get m.after.tx k ≡ Some p)
  tx_pass = one_at m.after.tx k (tx_wide n m hand.member)

  ports : (z : PortsClosed taken left read_faults reads written write_faults had x.rx_old x.rx_new x.tx_old x.tx_new) × (z.rx_end ≡ x.rx_end) × (z.tx_end ≡ x.tx_end)
  ports = (
    record {
      rx_id = get_or demi.rx k rx_id.0;
      rx_passes = map (rx_at k rx_pass.0) (callers_of crew);
      rx_seat = x.rx_seat;
      rx_end = x.rx_end;
      rx_closed = shut.rx rx_id.0 rx_pass.0;
      rx_only = rx_only rx_pass.0 had.number had_number;
      rx_pass = rx_at k rx_pass.0 m.after;
      rx_mine = (among_at (rx_at k rx_pass.0) (λ (c : Member). c.after) crew n m there, rx_number rx_pass.0 n m hand.member ∙ sym had_number);
      rx_added = added_by (λ (o : RxOut) (h : List RxOp) (t : List (ℕ × RxTold)) (p : ℕ). RxAdmits h t p o) rx_op.Stop had.rx (sight_of context k).rx (rx_at k rx_pass.0 m.after) was_left.stopped.rx (rx_side rx_pass.0 n m hand.member);
      tx_id = get_or demi.tx k tx_id.0;
      tx_passes = map (tx_at k tx_pass.0) (callers_of crew);
      tx_seat = x.tx_seat;
      tx_end = x.tx_end;
      tx_closed = shut.tx tx_id.0 tx_pass.0;
      tx_only = tx_only tx_pass.0 had.number had_number;
      tx_pass = tx_at k tx_pass.0 m.after;
      tx_mine = (among_at (tx_at k tx_pass.0) (λ (c : Member). c.after) crew n m there, tx_number tx_pass.0 n m hand.member ∙ sym had_number);
      tx_added = added_by (λ (o : TxOut) (h : List TxOp) (t : List (ℕ × ℕ)) (p : ℕ). TxAdmits h t p o) tx_op.Stop had.tx (sight_of context k).tx (tx_at k tx_pass.0 m.after) was_left.stopped.tx (tx_side tx_pass.0 n m hand.member);
    },
    refl,
    refl,
  )

  -- its worker
  went : GoesBeside k (worker_of had) (worker_then w)
  went = subst (λ (z : WorkerEnd). GoesBeside k (worker_of had) (worker_then z)) (sym hand.is) was_left.beside.worker

  served_by : IsServedBy (3 + 2 * many) workers k link_end
  served_by = record {
    by = w;
    there = w_there;
    link = served.link ∙ found.2;
    number = had_number;
    base = ap (λ (z : WorkerEnd). z.base) hand.is ∙ sym (ap (λ (d : Whole). d.service.key.base) hand.member.served.demi_is) ∙ was_left.beside.base;
    served = was_served;
    went = went;
  }

  -- by the law of a link that was served
  pub comes : ((ports : ℕ) (s : Sight) (d : DeskValue) (c : Cause) → WasServed ports s d c → PortsClosed taken left read_faults reads written write_faults s x.rx_old x.rx_new x.tx_old x.tx_new
      → (l : LinkRun) × (t : Talk) × LinkMoved taken left read_faults written write_faults (link_before x) (link_after x) l × LinkResult c d l (ports_then x) t)
      → LinkCame taken left read_faults reads written write_faults (3 + 2 * many) crew workers k x
  comes closes =
      let r = closes (3 + 2 * many) had served.desk end.cause was_served ports.0 in
      record {
        end = link_end;
        run = r.0;
        talk = r.1;
        gathered = record { listed = listed; served = was_served; ports = ports.0; rx_is = ports.1; tx_is = ports.2; moved = r.2; to_end = r.3.to_end };
        result = r.3;
        by = served_by;
        whose = (m, there, mine);
      }
