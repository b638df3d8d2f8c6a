-- What the workers of a session had at its end, how the ports of its links were closed, and what that comes to for each link.
use Rattle.std.specs.Prelude.{◌≡◌, ◌⊎◌, ℕ, ◌+◌, ◌<◌, List, [], ◌∷◌, Option, Some, length, map, slice_get, slice_index_or}
use Rattle.demi_heap.specs.Seen.{HeapId}
use Rattle.demi_pdpix.specs.Owing.{Owes}
use Rattle.demi_pdpix.specs.Returning.{rx_at, tx_at}
use Rattle.demi_pdpix.specs.Seen.{RxPass, TxPass}
use Rattle.demi_port.specs.Seen.{DeviceValue, EndValue, PortId}
use Rattle.demi_port_core.specs.History.{Among}
use Rattle.demi_spec.specs.Record.{Record}
use Rattle.demi_store.specs.Laws.{StoreBasis}
use Rattle.demi_store.specs.declared.told.StoreTold.{StoreTold}
use Rattle.demi_streamq.specs.RxGoing.{RxValue}
use Rattle.demi_streamq.specs.TxGoing.{TxValue}
use Rattle.demi_streamq.specs.declared.rx_op.RxOp.{RxOp}
use Rattle.demi_streamq.specs.declared.rx_told.RxTold.{RxTold}
use Rattle.demi_streamq.specs.declared.tx_op.TxOp.{TxOp}
use Rattle.demi_served.specs.Accounts.{StoreEntry}
use Rattle.demi_served.specs.Links.{LinkPorts}
use Rattle.demi_served.specs.Talks.{LinkRun}
use Rattle.demi_link.specs.Ends.{IsDone}
use Rattle.demi_link.specs.Sights.{side_of}
use Rattle.demi_link.specs.declared.phase.Cause.{Cause}
use Rattle.demi_worker.specs.declared.ended.Ended.{Ended}
use Rattle.demi_closed.specs.Closed.{Added, RxClosed, TxClosed}
use Rattle.demi_closed.specs.LinkClosed.{LinkMoved, PortsClosed, WasServed, ports_of}
use Rattle.demi_closed.specs.ManyLinks.{LinkEnd, ManyServed}
use Rattle.demi_closed.specs.OnlyLink.{store_stop}
use Rattle.demi_closed.specs.TextEnds.{ReadToEnd}
use Rattle.demi_context.specs.ContextPorts.{Caller, SameRx, SameTx, Whole}
use Rattle.demi_crew.specs.Serving.{ServedLinks}

-- A worker at a session's end: the numbers of the links that it took up, how these ended, its caller once they had ended, and at last.
pub record Member : Type 0 where
  pub numbers : List ℕ
  pub ended : List Ended
  pub before : Caller
  pub after : Caller

-- At the ports of links the caller did nothing more, and at the store's it did nothing more, or stopped it.
pub record DidNoMore (before after : Caller) : Type 0 where
  pub store : (side_of after.service ≡ side_of before.service) ⊎ Added store_stop (side_of before.service) after.service
  pub rx : SameRx before after
  pub tx : SameTx before after

-- It is the worker of this number: it served its links, did no more afterwards, and nothing is outstanding.
pub record IsMember (demi : Whole) (n : ℕ) (m : Member) : Type 0 where
  pub served : ServedLinks demi n m.numbers m.before m.ended
  pub no_more : DidNoMore m.before m.after
  pub owes : Owes demi n [] m.after

-- Each of so many links was taken up by just one of these workers, and nothing else was.
pub record IsShared (links : ℕ) (crew : List Member) : Type 0 where
  pub some : (l : ℕ) → l < links → (n : ℕ) × (m : Member) × (slice_get crew n ≡ Some m) × Among l m.numbers
  pub one : (l n o : ℕ) (m other : Member) → slice_get crew n ≡ Some m → slice_get crew o ≡ Some other → Among l m.numbers → Among l other.numbers → n ≡ o
  pub below : (l n : ℕ) (m : Member) → slice_get crew n ≡ Some m → Among l m.numbers → l < links

-- The two ports of a link: the engines of their devices before these ran and afterwards, their seats, and the ends of both ports.
pub record LinkShut (I O : Type 0) : Type 0 where
  pub rx_old : RxValue I
  pub rx_new : RxValue I
  pub tx_old : TxValue O
  pub tx_new : TxValue O
  pub rx_seat : DeviceValue RxOp RxTold HeapId
  pub tx_seat : DeviceValue TxOp ℕ HeapId
  pub rx_end : EndValue RxOp RxTold HeapId
  pub tx_end : EndValue TxOp ℕ HeapId

-- the workers' callers at last
abbrev pub callers_of : List Member → List Caller
callers_of crew = map (λ (m : Member). m.after) crew

-- the link's source and sink before its devices ran, and afterwards
abbrev pub link_before : {I O : Type 0} → LinkShut I O → I × O
link_before x = (x.rx_old.source, x.tx_old.sink)

abbrev pub link_after : {I O : Type 0} → LinkShut I O → I × O
link_after x = (x.rx_new.source, x.tx_new.sink)

-- what its devices served and finished
abbrev pub ports_then : {I O : Type 0} → LinkShut I O → LinkPorts
ports_then x = ports_of x.rx_new x.tx_new

-- The two ports of the link of this number were closed, and all the workers' passes had come back to them.
pub record IsShut {I O : Type 0} (taken : I → ℕ) (left : I → Option (List ℕ)) (read_faults : I → ℕ) (reads : I → ℕ → Option (List ℕ) → I → Type 0) (written : O → Option (List ℕ)) (write_faults : O → ℕ)
    (demi : Whole) (crew : List Member) (k : ℕ) (x : LinkShut I O) : Type 0 where
  pub rx : (id : PortId HeapId) (p : RxPass) → RxClosed taken left read_faults reads (slice_index_or demi.rx k id) (map (rx_at k p) (callers_of crew)) x.rx_old x.rx_new x.rx_seat x.rx_end
  pub rx_passes : x.rx_seat.passes ≡ length crew
  pub tx : (id : PortId HeapId) (p : TxPass) → TxClosed written write_faults (slice_index_or demi.tx k id) (map (tx_at k p) (callers_of crew)) x.tx_old x.tx_new x.tx_seat x.tx_end
  pub tx_passes : x.tx_seat.passes ≡ length crew

-- One of these workers, the one that the end names, listed this link's end.
pub record IsListed (crew : List Member) (k : ℕ) (e : LinkEnd) : Type 0 where
  pub by : Member
  pub there : slice_get crew e.worker ≡ Some by
  pub end : Ended
  pub among : Among end by.ended
  pub link : end.link ≡ k
  pub cause : end.cause ≡ e.cause
  pub had : end.had.value ≡ e.had
  pub talk : end.talk.value ≡ e.desk.talk

-- What the link of this number came to: one worker listed its end, it was served to that end, both its ports were closed and only that worker
-- did anything there, and this was read from it and written to it.
pub record IsGathered {I O : Type 0} (taken : I → ℕ) (left : I → Option (List ℕ)) (read_faults : I → ℕ) (reads : I → ℕ → Option (List ℕ) → I → Type 0) (written : O → Option (List ℕ)) (write_faults : O → ℕ)
    (there : ℕ) (crew : List Member) (k : ℕ) (x : LinkShut I O) (e : LinkEnd) (l : LinkRun) : Type 0 where
  pub listed : IsListed crew k e
  pub served : WasServed there e.had e.desk e.cause
  pub ports : PortsClosed taken left read_faults reads written write_faults e.had x.rx_old x.rx_new x.tx_old x.tx_new
  pub rx_is : ports.rx_end ≡ x.rx_end
  pub tx_is : ports.tx_end ≡ x.tx_end
  pub moved : LinkMoved taken left read_faults written write_faults (link_before x) (link_after x) l
  pub to_end : IsDone e.cause → ReadToEnd e.cause l

-- so did each of these links, with the numbers from this one on
abbrev pub AreGathered : {I O : Type 0} → (I → ℕ) → (I → Option (List ℕ)) → (I → ℕ) → (I → ℕ → Option (List ℕ) → I → Type 0) → (O → Option (List ℕ)) → (O → ℕ)
    → ℕ → List Member → ℕ → List (LinkShut I O) → List LinkEnd → List LinkRun → Type 0
AreGathered taken left read_faults reads written write_faults there crew k [] [] [] = Unit {0}
AreGathered taken left read_faults reads written write_faults there crew k (x ∷ xs) (e ∷ es) (l ∷ ls) = IsGathered taken left read_faults reads written write_faults there crew k x e l × AreGathered taken left read_faults reads written write_faults there crew (k + 1) xs es ls
AreGathered taken left read_faults reads written write_faults there crew k xs es ls = ⊥

-- why each of these links ended
abbrev pub causes_of : List LinkEnd → List Cause
causes_of ends = map (λ (k : LinkEnd). k.cause) ends

-- What a session of many links and workers came to over a store on this base, that left these records in its log.
pub record CrewServed {I O : Type 0} (taken : I → ℕ) (left : I → Option (List ℕ)) (read_faults : I → ℕ) (reads : I → ℕ → Option (List ℕ) → I → Type 0) (written : O → Option (List ℕ)) (write_faults : O → ℕ)
    (there : ℕ) (crew : List Member) (b : StoreBasis) (links : List (LinkShut I O)) (history : List StoreEntry) (trail : List (ℕ × StoreTold)) (records : List Record) : Type 0 where
  pub ends : List LinkEnd
  pub runs : List LinkRun
  pub gathered : AreGathered taken left read_faults reads written write_faults there crew 0 links ends runs
  pub served : ManyServed (causes_of ends) b history trail runs (map ports_then links) records
