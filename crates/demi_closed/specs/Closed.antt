-- What is known of a link's two ports where they are closed, in the words of the clauses that tell it.
use Rattle.std.specs.Prelude.{◌≡◌, ◌≢◌, ℕ, ◌<◌, Bool, List, [], ◌∷◌, ◌++◌, Option}
use Rattle.demi_port.specs.Seen.{DeviceValue, EndValue, PassValue, known_by}
use Rattle.demi_port.specs.Seen as port
use Rattle.demi_port_core.specs.History.{AnyOf, Each, ground_of}
use Rattle.demi_port_core.specs.Trails.{Behind}
use Rattle.demi_device.specs.Turning.{Agrees}
use Rattle.demi_heap.specs.Seen.{HeapId}
use Rattle.demi_link.specs.Sights.{Side}
use Rattle.demi_pdpix.specs.Lanes.{IsEndOf}
use Rattle.demi_pdpix.specs.Seen.{RxPass, TxPass}
use Rattle.demi_served.specs.Ends.{StoreEnd, StorePass}
use Rattle.demi_store.specs.Engine.{EngineValue, GoesTo}
use Rattle.demi_store.specs.Laws.{Admits, StoreBasis, told_of}
use Rattle.demi_store.specs.declared.ask.StoreAsk.{StoreAsk}
use Rattle.demi_store.specs.declared.told.StoreTold.{StoreTold}
use Rattle.demi_streamq.specs.Receiving as rx
use Rattle.demi_streamq.specs.Receiving.{IsFrom, RxAdmits}
use Rattle.demi_streamq.specs.RxGoing.{RxGoes, RxValue}
use Rattle.demi_streamq.specs.Sending as tx
use Rattle.demi_streamq.specs.Sending.{TxAdmits}
use Rattle.demi_streamq.specs.TxGoing.{TxGoes, TxValue}
use Rattle.demi_streamq.specs.declared.rx_op.RxOp.{RxOp}
use Rattle.demi_streamq.specs.declared.rx_told.RxTold.{RxTold}
use Rattle.demi_streamq.specs.declared.tx_op.TxOp.{TxOp}

-- A receiving port that was closed: its engine before it served and afterwards, its device's seat, its passes, and its end.
pub record RxClosed {S : Type 0} (taken : S → ℕ) (left : S → Option (List ℕ)) (faults : S → ℕ) (reads : S → ℕ → Option (List ℕ) → S → Type 0)
    (id : port.PortId HeapId) (passes : List RxPass) (a b : RxValue S) (seat : DeviceValue RxOp RxTold HeapId) (end : EndValue RxOp RxTold HeapId) : Type 0 where
  pub unserved : a.served ≡ []
  pub unfinished : a.finished ≡ []
  pub goes : RxGoes taken left faults reads a b
  pub agrees : Agrees rx.told (λ h t p o. RxAdmits h t p o × IsFrom b.pass.heap o) b.served b.finished seat
  pub all : ground_of seat.fetched ≡ b.served
  pub ends : IsEndOf id seat passes end

-- A sending port that was closed, likewise.
pub record TxClosed {S : Type 0} (written : S → Option (List ℕ)) (faults : S → ℕ)
    (id : port.PortId HeapId) (passes : List TxPass) (a b : TxValue S) (seat : DeviceValue TxOp ℕ HeapId) (end : EndValue TxOp ℕ HeapId) : Type 0 where
  pub unserved : a.served ≡ []
  pub unfinished : a.finished ≡ []
  pub goes : TxGoes written faults a b
  pub agrees : Agrees tx.told TxAdmits b.served b.finished seat
  pub all : ground_of seat.fetched ≡ b.served
  pub ends : IsEndOf id seat passes end

-- Of the passes of a port only that of this number did something: each number below theirs is one's, and those of other numbers submitted nothing.
pub record OnlyBy {D T B : Type 0} (n : ℕ) (seat : DeviceValue D T B) (passes : List (PassValue D T B)) : Type 0 where
  pub all : (m : ℕ) → m < seat.passes → AnyOf (λ (p : PassValue D T B). p.number ≡ m) passes
  pub others : Each (λ (p : PassValue D T B). p.number ≢ n → p.submitted ≡ []) passes

-- A pass at its end, of which this was seen before it submitted one operation more, which says this.
pub record Added {D T B : Type 0} (said : D) (before : Side D T) (p : PassValue D T B) : Type 0 where
  pub place : ℕ
  pub token : ℕ
  pub submitted : p.submitted ≡ before.submitted ++ (place, (token, said)) ∷ []
  pub grows : Behind (known_by p) before.known

-- The store's port that was closed, likewise.
pub record StoreClosed {D : Type 0} (bytes : D → Option (List ℕ)) (held faults : D → ℕ) (appends : D → List ℕ → Bool → D → Type 0) (looks : D → D → Type 0)
    (id : port.PortId StoreBasis) (passes : List StorePass) (a b : EngineValue D) (seat : DeviceValue StoreAsk StoreTold StoreBasis) (end : StoreEnd) : Type 0 where
  pub unserved : a.served ≡ []
  pub unfinished : a.finished ≡ []
  pub base : b.base ≡ a.base
  pub goes : GoesTo bytes held faults appends looks a b
  pub agrees : Agrees told_of (Admits b.base) b.served b.finished seat
  pub all : ground_of seat.fetched ≡ b.served
  pub ends : IsEndOf id seat passes end
