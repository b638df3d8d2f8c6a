-- What a link comes to at a session's end.
use Rattle.std.specs.Prelude.{◌≡◌, ◌⊎◌, ℕ, ◌+◌, ◌≤◌, Bool, true, false, List, [], ◌∷◌, Option, Some, None, length}
use Rattle.std.specs.Io.KnownBytes.{append_known, prepend_known}
use Rattle.demi_device.specs.Serving.{trail}
use Rattle.demi_heap.specs.Seen.{HeapId}
use Rattle.demi_pdpix.specs.Seen.{RxPass, TxPass}
use Rattle.demi_port.specs.Seen.{DeviceValue, EndValue, PortId}
use Rattle.demi_port_core.specs.History.{Among}
use Rattle.demi_port_core.specs.Trails.{StartsWith}
use Rattle.demi_streamq.specs.RxGoing.{RxValue}
use Rattle.demi_streamq.specs.RxKept.{NoneLeft}
use Rattle.demi_streamq.specs.Sending as tx
use Rattle.demi_streamq.specs.TxGoing.{TxValue}
use Rattle.demi_streamq.specs.declared.rx_op.RxOp.{RxOp}
use Rattle.demi_streamq.specs.declared.rx_op.RxOp.TheVariants as rx_op
use Rattle.demi_streamq.specs.declared.rx_told.RxTold.{RxTold}
use Rattle.demi_streamq.specs.declared.tx_op.TxOp.{TxOp}
use Rattle.demi_streamq.specs.declared.tx_op.TxOp.TheVariants as tx_op
use Rattle.demi_served.specs.Links.{LinkEnded, LinkPorts}
use Rattle.demi_served.specs.Talks.{LinkRun, Talk}
use Rattle.demi_served.specs.Writing.{WroteAll}
use Rattle.demi_link.specs.Ends.{IsDone, IsKnown}
use Rattle.demi_link.specs.Fitting.{Fits}
use Rattle.demi_link.specs.Sights.{Sight}
use Rattle.demi_link.specs.Talks.{DeskValue}
use Rattle.demi_link.specs.declared.phase.Cause.{Cause}
use Rattle.demi_link.specs.declared.phase.Phase.TheVariants.{Over}
use Rattle.demi_worker.specs.Ending.{NeverBegan}
use Rattle.demi_closed.specs.Closed.{Added, OnlyBy, RxClosed, TxClosed}
use Rattle.demi_closed.specs.TextEnds.{ReadToEnd}

-- whether nothing is left of an input, as far as it tells
abbrev pub is_read_out : Option (List ℕ) → Bool
is_read_out None = true
is_read_out (Some []) = true
is_read_out (Some (b ∷ bytes)) = false

-- An input ended where its source has nothing left and its count of faults did not rise. Where it has nothing left and the count rose,
-- it may count as ended or not.
pub record EndedAs (left : Option (List ℕ)) (before after : ℕ) (ended : Bool) : Type 0 where
  pub none : ended ≡ true → NoneLeft left
  pub all : NoneLeft left → after ≤ before → ended ≡ true

-- between two moments this was read from a link's source and written to its sink
pub record LinkMoved {I O : Type 0} (taken : I → ℕ) (left : I → Option (List ℕ)) (read_faults : I → ℕ) (written : O → Option (List ℕ)) (write_faults : O → ℕ)
    (before after : I × O) (l : LinkRun) : Type 0 where
  pub taken_is : taken after.0 ≡ taken before.0 + length l.read
  pub left_is : left before.0 ≡ prepend_known l.read (left after.0)
  pub written_is : written after.1 ≡ append_known (written before.1) l.written
  pub ended_is : EndedAs (left after.0) (read_faults before.0) (read_faults after.0) l.ended
  pub read_faults_on : read_faults before.0 ≤ read_faults after.0
  pub write_faults_on : write_faults before.1 ≤ write_faults after.1

-- The link was served until it was over, and was not lost; or it was refused memory before anything of it was read.
pub record WasServed (ports : ℕ) (s : Sight) (d : DeskValue) (c : Cause) : Type 0 where
  pub over : Fits ports s d (Over c) ⊎ NeverBegan ports s d c
  pub known : IsKnown c

-- What a link that was served comes to: its talk accounts for what was read and written; and where its input came to an end
-- each request was answered, each reply was written, and what was read ends as the cause says.
pub record LinkResult (c : Cause) (d : DeskValue) (l : LinkRun) (e : LinkPorts) (t : Talk) : Type 0 where
  pub ended : LinkEnded l e t
  pub replies : t.replies ≡ d.talk.kept.replies
  pub asks : StartsWith t.asks d.talk.kept.drawn
  pub all : IsDone c → (t.asks ≡ d.talk.kept.drawn) × (length t.replies ≡ length t.asks) × WroteAll e.pushes (trail tx.told e.wrote)
  pub to_end : IsDone c → ReadToEnd c l

-- The two ports of a link were closed: its worker's passes there, of which this was seen, then only stopped both, and no other pass did
-- anything there.
pub record PortsClosed {I O : Type 0} (taken : I → ℕ) (left : I → Option (List ℕ)) (read_faults : I → ℕ) (reads : I → ℕ → Option (List ℕ) → I → Type 0) (written : O → Option (List ℕ)) (write_faults : O → ℕ)
    (s : Sight) (rx_old rx_new : RxValue I) (tx_old tx_new : TxValue O) : Type 0 where
  pub rx_id : PortId HeapId
  pub rx_passes : List RxPass
  pub rx_seat : DeviceValue RxOp RxTold HeapId
  pub rx_end : EndValue RxOp RxTold HeapId
  pub rx_closed : RxClosed taken left read_faults reads rx_id rx_passes rx_old rx_new rx_seat rx_end
  pub rx_only : OnlyBy s.number rx_seat rx_passes
  pub rx_pass : RxPass
  pub rx_mine : Among rx_pass rx_passes × (rx_pass.number ≡ s.number)
  pub rx_added : Added rx_op.Stop s.rx rx_pass
  pub tx_id : PortId HeapId
  pub tx_passes : List TxPass
  pub tx_seat : DeviceValue TxOp ℕ HeapId
  pub tx_end : EndValue TxOp ℕ HeapId
  pub tx_closed : TxClosed written write_faults tx_id tx_passes tx_old tx_new tx_seat tx_end
  pub tx_only : OnlyBy s.number tx_seat tx_passes
  pub tx_pass : TxPass
  pub tx_mine : Among tx_pass tx_passes × (tx_pass.number ≡ s.number)
  pub tx_added : Added tx_op.Stop s.tx tx_pass

-- what its two engines were served and finished
abbrev pub ports_of : {I O : Type 0} → RxValue I → TxValue O → LinkPorts
ports_of rx tx = record { pops = rx.served; took = rx.finished; pushes = tx.served; wrote = tx.finished }
