-- What the one link of a session was served by, from what the session's steps give.
use Rattle.std.proofs.Common.{◌≡◌, ℕ, List, [], ◌∷◌, Bool, Option, length, map, get_or, refl, ◌∙◌, ap, sym, subst, inl}
use Rattle.demi_heap.specs.Seen.{HeapId}
use Rattle.demi_link.specs.Sights.{Sight, side_of}
use Rattle.demi_link.specs.Talks.{DeskValue}
use Rattle.demi_pdpix.specs.Lanes.{IsEndOf}
use Rattle.demi_pdpix.specs.Owing.{IsDue, Owes}
use Rattle.demi_pdpix.specs.Returning.{rx_at, tx_at}
use Rattle.demi_pdpix.specs.Seen.{Pair, RxPass, TxPass}
use Rattle.demi_port.specs.Seen.{DeviceValue, PortId}
use Rattle.demi_served.specs.Ends.{StoreEnd}
use Rattle.demi_store.specs.Engine.{EngineValue}
use Rattle.demi_store.specs.Laws.{StoreBasis}
use Rattle.demi_store.specs.declared.ask.StoreAsk.{StoreAsk}
use Rattle.demi_store.specs.declared.told.StoreTold.{StoreTold}
use Rattle.demi_streamq.specs.Receiving.{RxAdmits}
use Rattle.demi_streamq.specs.Sending.{TxAdmits}
use Rattle.demi_streamq.specs.declared.rx_op.RxOp.{RxOp}
use Rattle.demi_streamq.specs.declared.rx_op.RxOp.TheVariants as rx_op
use Rattle.demi_streamq.specs.declared.rx_out.RxOut.{RxOut}
use Rattle.demi_streamq.specs.declared.rx_told.RxTold.{RxTold}
use Rattle.demi_streamq.specs.declared.tx_op.TxOp.{TxOp}
use Rattle.demi_streamq.specs.declared.tx_op.TxOp.TheVariants as tx_op
use Rattle.demi_streamq.specs.declared.tx_out.TxOut.{TxOut}
use Rattle.demi_worker.specs.declared.ended.Ended.{Ended}
use Rattle.demi_server.specs.Building.{IsLinkNew, LinkDevices, ends_of, rx_of, tx_of}
use Rattle.demi_closed.specs.Closed.{Added}
use Rattle.demi_context.specs.ContextPorts.{Caller, Whole, side_at}
use Rattle.demi_context.specs.ContextSights.{ports_of, sight_of}
use Rattle.demi_server.specs.Ending.{SessionEnded}
use Rattle.demi_server.specs.Gathering.{AllDevices}
use Rattle.demi_server.specs.Hands.{HandValue, HasServed, ServedLink}
use Rattle.demi_closed.specs.LinkClosed.{PortsClosed, WasServed}
use Rattle.demi_closed.specs.OnlyLink.{ServesOne, WentOn, store_stop}
use Rattle.demi_server.specs.Runs.{RxRan, TxRan}
use Rattle.demi_server.specs.Session.{RxEndValue, TxEndValue}
use Rattle.demi_work.specs.Working.{BothDone}
use Rattle.demi_server.specs.declared.parts.Parts.{Parts}
use Rattle.demi_server.proofs.Callers.{only_ended, owes_none, same_rx, same_tx, stopped_store}
use Rattle.demi_server.proofs.Singles.{added_by, at_first, first_of, mapped, only, only_end, only_new, only_pass}
use Rattle.demi_server.proofs.Stopped.{at_many}

-- The one link: its devices before they ran and afterwards, its end, what its worker had for it at last, and how its ports and that of
-- the store were closed.
pub record TakenApart {I O D : Type 0} (taken : I → ℕ) (left : I → Option (List ℕ)) (read_faults : I → ℕ) (reads : I → ℕ → Option (List ℕ) → I → Type 0) (written : O → Option (List ℕ)) (write_faults : O → ℕ)
    (d : Whole) (p q : Parts I O D) (w : AllDevices I O D) (after : Caller) (ended : List Ended) (service : StoreEnd) (rx_ends : List RxEndValue) (tx_ends : List TxEndValue) : Type 0 where
  pub old : LinkDevices I O
  pub new : LinkDevices I O
  pub was : p.links.items ≡ ends_of old ∷ []
  pub now : q.links.items ≡ ends_of new ∷ []
  pub end : Ended
  pub only : ended ≡ end ∷ []
  pub link : end.link ≡ 0
  pub there : ℕ
  pub desk : DeskValue
  pub served : WasServed there end.had.value desk end.cause
  pub later : Sight
  pub went : WentOn desk.link end.had.value later
  pub one : ServesOne later desk
  pub base : later.base ≡ p.store.base
  pub ports : PortsClosed taken left read_faults reads written write_faults end.had.value old.first.engine new.first.engine old.second.engine new.second.engine
  pub rx_is : rx_ends ≡ ports.rx_end ∷ []
  pub tx_is : tx_ends ≡ ports.tx_end ∷ []
  pub number : after.service.number ≡ 0
  pub added : Added store_stop later.store after.service
  pub ends : IsEndOf d.service w.store.seat (after.service ∷ []) service
  pub alone : w.store.seat.passes ≡ 1
  pub base_is : service.base ≡ p.store.base
  pub same_base : w.store.engine.base ≡ p.store.base

module _ {I O D : Type 0} (taken : I → ℕ) (left : I → Option (List ℕ)) (read_faults : I → ℕ) (reads : I → ℕ → Option (List ℕ) → I → Type 0) (written : O → Option (List ℕ)) (write_faults : O → ℕ)
    (bytes : D → Option (List ℕ)) (held faults : D → ℕ) (appends : D → List ℕ → Bool → D → Type 0) (looks : D → D → Type 0)
    (d : Whole) (p q : Parts I O D) (v w : AllDevices I O D) (first last : HandValue) (after : Caller) (ended : List Ended) (service : StoreEnd) (rx_ends : List RxEndValue) (tx_ends : List TxEndValue)
    (e : SessionEnded taken left read_faults reads written write_faults bytes held faults appends looks d p q v w first last after ended service rx_ends tx_ends) where
  -- the link's devices
  many : length v.links ≡ 1
  many = sym (mapped ends_of v.links) ∙ sym (ap (λ (l : List (I × O)). length l) e.made.links) ∙ sym e.for.links.0 ∙ e.one.1

  old_one : (x : LinkDevices I O) × (v.links ≡ x ∷ [])
  old_one = only v.links many

  new_one : (x : LinkDevices I O) × (w.links ≡ x ∷ [])
  new_one = only w.links (e.links.as_many ∙ many)

  abbrev old : LinkDevices I O
  old = old_one.0

  abbrev new : LinkDevices I O
  new = new_one.0

  ran : BothDone (RxRan taken left read_faults reads) (TxRan written write_faults) old new
  ran =
      let all : BothDone (RxRan taken left read_faults reads) (TxRan written write_faults) (get_or v.links 0 old) (get_or w.links 0 old) = e.links.each 0 old (first_of v.links many) in
      let by_old : BothDone (RxRan taken left read_faults reads) (TxRan written write_faults) old (get_or w.links 0 old) =
      subst (λ (x : LinkDevices I O). BothDone (RxRan taken left read_faults reads) (TxRan written write_faults) x (get_or w.links 0 old)) (at_first v.links old old old_one.1) all in
      subst (λ (x : LinkDevices I O). BothDone (RxRan taken left read_faults reads) (TxRan written write_faults) old x) (at_first w.links new old new_one.1) by_old

  is_new : IsLinkNew old
  is_new = subst (λ (x : LinkDevices I O). IsLinkNew x) (at_first v.links old old old_one.1) (e.unused.links 0 old (first_of v.links many))

  -- the worker
  abbrev did : HasServed first e.did.0
  did = e.did.1

  abbrev link : ServedLink first.demi first.number did.caller did.ended
  link = did.served

  owes : Owes d 0 [] after
  owes = owes_none d first e.did.0 last after ended e.demi_is e.number_is e.did.1 e.did.2 e.done

  -- what the worker had for the link when it had ended, and at last
  abbrev had : Sight
  had = link.end.had.value

  abbrev later : Sight
  later = sight_of link.context 0

  later_zero : later.number ≡ 0
  later_zero = link.number_is ∙ e.number_is

  had_zero : had.number ≡ 0
  had_zero = sym link.left.beside.number ∙ later_zero

  -- the receiving port
  rx_pass : (x : RxPass) × (after.rx ≡ x ∷ [])
  rx_pass = only after.rx (at_many after.rx d.rx owes.0.rx ∙ e.one.1)

  rx_port : (x : PortId HeapId) × (d.rx ≡ x ∷ [])
  rx_port = only d.rx e.one.1

  rx_end : (x : RxEndValue) × (rx_ends ≡ x ∷ [])
  rx_end = only rx_ends (e.rx_are.many ∙ e.one.1)

  rx_number : rx_pass.0.number ≡ 0
  rx_number =
      let due : IsDue 0 0 (get_or after.rx 0 rx_pass.0) = owes.1.3 0 rx_pass.0 (first_of after.rx (at_many after.rx d.rx owes.0.rx ∙ e.one.1)) in
      sym (ap (λ (x : RxPass). x.number) (at_first after.rx rx_pass.0 rx_pass.0 rx_pass.1)) ∙ due.0

  rx_side : side_of rx_pass.0 ≡ later.rx
  rx_side =
      sym (ap (λ (l : List RxPass). side_at l 0) rx_pass.1)
      ∙ same_rx d first e.did.0 last after ended e.demi_is e.number_is e.did.1 e.did.2 e.done

  rx_passes : new.first.seat.passes ≡ 1
  rx_passes =
      let made = only_new d.heap d.callers d.rx p.seats.rx.items rx_port.0 (rx_of old) e.for.rx rx_port.1 (e.made.rx ∙ ap (λ (l : List (LinkDevices I O)). map rx_of l) old_one.1) in
      ran.0.same_passes ∙ ap (λ (z : DeviceValue RxOp RxTold HeapId). z.passes) made.0 ∙ e.one.0

  rx_ended : IsEndOf rx_port.0 new.first.seat (rx_pass.0 ∷ []) rx_end.0
  rx_ended = only_end rx_at after d.rx q.seats.rx.items rx_ends rx_port.0 (rx_of new) rx_end.0 rx_pass.0 e.rx_are e.one.1 rx_port.1 (e.had.rx ∙ ap (λ (l : List (LinkDevices I O)). map rx_of l) new_one.1) rx_end.1 (at_first after.rx rx_pass.0 rx_pass.0 rx_pass.1)

  -- the sending port
  tx_pass : (x : TxPass) × (after.tx ≡ x ∷ [])
  tx_pass = only after.tx (at_many after.tx d.tx owes.0.tx ∙ e.one.2)

  tx_port : (x : PortId HeapId) × (d.tx ≡ x ∷ [])
  tx_port = only d.tx e.one.2

  tx_end : (x : TxEndValue) × (tx_ends ≡ x ∷ [])
  tx_end = only tx_ends (e.tx_are.many ∙ e.one.2)

  tx_number : tx_pass.0.number ≡ 0
  tx_number =
      let due : IsDue 0 0 (get_or after.tx 0 tx_pass.0) = owes.1.4 0 tx_pass.0 (first_of after.tx (at_many after.tx d.tx owes.0.tx ∙ e.one.2)) in
      sym (ap (λ (x : TxPass). x.number) (at_first after.tx tx_pass.0 tx_pass.0 tx_pass.1)) ∙ due.0

  tx_side : side_of tx_pass.0 ≡ later.tx
  tx_side =
      sym (ap (λ (l : List TxPass). side_at l 0) tx_pass.1)
      ∙ same_tx d first e.did.0 last after ended e.demi_is e.number_is e.did.1 e.did.2 e.done

  tx_passes : new.second.seat.passes ≡ 1
  tx_passes =
      let made = only_new d.heap d.callers d.tx p.seats.tx.items tx_port.0 (tx_of old) e.for.tx tx_port.1 (e.made.tx ∙ ap (λ (l : List (LinkDevices I O)). map tx_of l) old_one.1) in
      ran.1.same_passes ∙ ap (λ (z : DeviceValue TxOp ℕ HeapId). z.passes) made.0 ∙ e.one.0

  tx_ended : IsEndOf tx_port.0 new.second.seat (tx_pass.0 ∷ []) tx_end.0
  tx_ended = only_end tx_at after d.tx q.seats.tx.items tx_ends tx_port.0 (tx_of new) tx_end.0 tx_pass.0 e.tx_are e.one.2 tx_port.1 (e.had.tx ∙ ap (λ (l : List (LinkDevices I O)). map tx_of l) new_one.1) tx_end.1 (at_first after.tx tx_pass.0 tx_pass.0 tx_pass.1)

  ports : PortsClosed taken left read_faults reads written write_faults had old.first.engine new.first.engine old.second.engine new.second.engine
  ports = record {
    rx_id = rx_port.0;
    rx_passes = rx_pass.0 ∷ [];
    rx_seat = new.first.seat;
    rx_end = rx_end.0;
    rx_closed = record { unserved = is_new.0; unfinished = is_new.1; goes = ran.0.went; agrees = ran.0.agrees; all = ran.0.all_served; ends = rx_ended };
    rx_only = only_pass new.first.seat rx_pass.0 had.number rx_passes rx_number had_zero;
    rx_pass = rx_pass.0;
    rx_mine = (inl refl, rx_number ∙ sym had_zero);
    rx_added = added_by (λ (o : RxOut) (h : List RxOp) (t : List (ℕ × RxTold)) (n : ℕ). RxAdmits h t n o) rx_op.Stop had.rx later.rx rx_pass.0 link.left.stopped.rx rx_side;
    tx_id = tx_port.0;
    tx_passes = tx_pass.0 ∷ [];
    tx_seat = new.second.seat;
    tx_end = tx_end.0;
    tx_closed = record { unserved = is_new.2; unfinished = is_new.3; goes = ran.1.went; agrees = ran.1.agrees; all = ran.1.all_served; ends = tx_ended };
    tx_only = only_pass new.second.seat tx_pass.0 had.number tx_passes tx_number had_zero;
    tx_pass = tx_pass.0;
    tx_mine = (inl refl, tx_number ∙ sym had_zero);
    tx_added = added_by (λ (o : TxOut) (h : List TxOp) (t : List (ℕ × ℕ)) (n : ℕ). TxAdmits h t n o) tx_op.Stop had.tx later.tx tx_pass.0 link.left.stopped.tx tx_side;
  }

  -- the store's port
  seat_is : q.seats.service.0 ≡ w.store.seat
  seat_is = ap (λ (z : Pair StoreAsk StoreTold StoreBasis). z.0) e.had.service

  alone : w.store.seat.passes ≡ 1
  alone = e.store.same_passes ∙ sym (ap (λ (z : Pair StoreAsk StoreTold StoreBasis). z.0.passes) e.made.service) ∙ ap (λ (z : DeviceValue StoreAsk StoreTold StoreBasis). z.passes) e.for.service.0 ∙ e.one.0

  pub taken_apart : TakenApart taken left read_faults reads written write_faults d p q w after ended service rx_ends tx_ends
  unfolding ports
  taken_apart = record {
    old = old;
    new = new;
    was = e.made.links ∙ ap (λ (l : List (LinkDevices I O)). map ends_of l) old_one.1;
    now = e.had.links ∙ ap (λ (l : List (LinkDevices I O)). map ends_of l) new_one.1;
    end = link.end;
    only = only_ended d first e.did.0 last after ended e.demi_is e.number_is e.did.1 e.did.2 e.done;
    link = link.link;
    there = ports_of link.context;
    desk = link.served.desk;
    served = record { over = link.served.over; known = link.known };
    later = later;
    went = subst (λ (n : ℕ). WentOn n had later) (sym link.served.link) link.left.beside;
    one = record { number = later_zero; link = link.served.link; others = link.others; asks = link.asks };
    base = ap (λ (z : Whole). z.service.key.base) (link.demi_is ∙ e.demi_is) ∙ e.for.bases.1;
    ports = ports;
    rx_is = rx_end.1;
    tx_is = tx_end.1;
    number = owes.1.1.0;
    added = stopped_store d first e.did.0 last after ended e.demi_is e.number_is e.did.1 e.did.2 e.done;
    ends = subst (λ (z : DeviceValue StoreAsk StoreTold StoreBasis). IsEndOf d.service z (after.service ∷ []) service) seat_is e.service_end;
    alone = alone;
    base_is = e.service_end.base ∙ e.for.bases.1;
    same_base = e.store.same_base ∙ sym (ap (λ (z : EngineValue D). z.base) e.made.store);
  }
