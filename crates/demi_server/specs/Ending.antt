-- What a session of one link and one worker comes to, by what its steps give.
use Rattle.std.specs.Prelude.{◌≡◌, ℕ, List, [], ◌∷◌, Bool, Option, Some, None, length, map}
use Rattle.demi_core.specs.Outside.{Rose}
use Rattle.demi_link.specs.declared.phase.Cause.{Cause}
use Rattle.demi_pdpix.specs.Closing.{AreEndsOf}
use Rattle.demi_pdpix.specs.Lanes.{IsEndOf}
use Rattle.demi_pdpix.specs.Returning.{rx_at, tx_at}
use Rattle.demi_pdpix.specs.Seen.{service_of}
use Rattle.demi_port.specs.Seen.{says}
use Rattle.demi_served.specs.Accounts.{standing_at_end}
use Rattle.demi_served.specs.Ends.{StoreEnd}
use Rattle.demi_served.specs.LogEnds.{LogEnds}
use Rattle.demi_spec.specs.Record.{Record}
use Rattle.demi_store.specs.Laws.{StoreBasis}
use Rattle.demi_store.specs.declared.ask.StoreAsk.{StoreAsk}
use Rattle.demi_store.specs.declared.told.StoreTold.{StoreTold}
use Rattle.demi_worker.specs.declared.ended.Ended.{Ended}
use Rattle.demi_context.specs.ContextPorts.{Caller, Whole}
use Rattle.demi_server.specs.Gathering.{AllDevices, AreFor, AreUnused, Have}
use Rattle.demi_server.specs.Hands.{Done, HandValue, HasFinished, HasServed}
use Rattle.demi_server.specs.Outcomes.{told_of}
use Rattle.demi_closed.specs.Reading.{OnlyDueReads}
use Rattle.demi_server.specs.Runs.{MemRan, RxRan, StoreRan, TxRan}
use Rattle.demi_server.specs.Session.{LinkServed, OnlyOne, RxEndValue, TxEndValue}
use Rattle.demi_work.specs.Working.{BothDone, EachBecame, Then}
use Rattle.demi_server.specs.declared.outcome.Outcome.{Outcome}
use Rattle.demi_server.specs.declared.parts.Parts.{Parts}

-- A session of one link and one worker has ended: of these parts the devices of a whole with one caller were made, which ran beside the
-- worker of the number 0; it served its link and at the last stopped all; the devices were taken apart, and the whole was closed with
-- the worker's caller and all seats. These are the ends of the store's port and of those of the links.
pub record SessionEnded {I O D : Type 0} (taken : I → ℕ) (left : I → Option (List ℕ)) (read_faults : I → ℕ) (reads : I → ℕ → Option (List ℕ) → I → Type 0) (written : O → Option (List ℕ)) (write_faults : O → ℕ)
    (bytes : D → Option (List ℕ)) (held faults : D → ℕ) (appends : D → List ℕ → Bool → D → Type 0) (looks : D → D → Type 0)
    (d : Whole) (p q : Parts I O D) (v w : AllDevices I O D) (first last : HandValue) (after : Caller) (ended : List Ended) (service : StoreEnd) (rx_ends : List RxEndValue) (tx_ends : List TxEndValue) : Type 0 where
  pub one : (d.callers ≡ 1) × (length d.rx ≡ 1) × (length d.tx ≡ 1)
  pub for : AreFor d p
  pub made : Have v p
  pub unused : AreUnused v
  pub memory : MemRan v.memory w.memory
  pub store : StoreRan bytes held faults appends looks v.store w.store
  pub links : EachBecame (BothDone (RxRan taken left read_faults reads) (TxRan written write_faults)) v.links w.links
  pub demi_is : first.demi ≡ d
  pub number_is : first.number ≡ 0
  pub did : Then HasServed HasFinished first last
  pub done : last.stage ≡ Done after ended
  pub had : Have w q
  pub service_end : IsEndOf d.service q.seats.service.0 (map service_of (after ∷ [])) service
  pub rx_are : AreEndsOf rx_at (after ∷ []) d.rx q.seats.rx.items rx_ends
  pub tx_are : AreEndsOf tx_at (after ∷ []) d.tx q.seats.tx.items tx_ends

-- What became of a log: where it told its bytes, it has those that it had, the entries of the new records, and of one put more at most
-- a front; else its records are those that the store's history leaves.
abbrev pub LogCame : (before after : Option (List ℕ)) → StoreBasis → List StoreAsk → List (ℕ × StoreTold) → List Record → Type 0
LogCame None after b history trail records = records ≡ (standing_at_end b history trail).records
LogCame (Some old) after b history trail records = (now : List ℕ) × (after ≡ Some now) × LogEnds b history trail old now records

-- It was a session of one link: the one end that the worker listed is its; by that end's cause it was served; and so the log came to be.
pub record OneEnded {I O D : Type 0} (taken : I → ℕ) (left : I → Option (List ℕ)) (read_faults : I → ℕ) (reads : I → ℕ → Option (List ℕ) → I → Type 0) (written : O → Option (List ℕ)) (write_faults : O → ℕ) (bytes : D → Option (List ℕ)) (faults : D → ℕ)
    (p q : Parts I O D) (v w : AllDevices I O D) (ended : List Ended) (service : StoreEnd) (rx_ends : List RxEndValue) (tx_ends : List TxEndValue) : Type 0 where
  pub one : OnlyOne p.links.items q.links.items rx_ends tx_ends
  pub end : Ended
  pub only : ended ≡ end ∷ []
  pub link : end.link ≡ 0
  pub records : List Record
  pub served : LinkServed taken left read_faults written write_faults p.store.base one.link one.now (faults v.store.engine.core.log.disk) (faults w.store.engine.core.log.disk) end.cause service one.rx_end one.tx_end records
  pub log : LogCame (bytes v.store.engine.core.log.disk) (bytes w.store.engine.core.log.disk) p.store.base (says service.history) service.trail records
  pub struck : (at : ℕ) → (standing_at_end p.store.base (says service.history) service.trail).fault ≡ Some at → Rose (faults v.store.engine.core.log.disk) (faults w.store.engine.core.log.disk)
  pub due : OnlyDueReads reads p.store.base.told p.store.base.limit p.store.base.records one.link.0 one.now.0 served.run

-- What a session of one link came to over a store on this base: the link with its ports' ends, how it ended and so the outcome, the records
-- that the log has, and what became of its disk, whose count of faults rose where an append failed.
pub record OneCame {I O D : Type 0} (taken : I → ℕ) (left : I → Option (List ℕ)) (read_faults : I → ℕ) (reads : I → ℕ → Option (List ℕ) → I → Type 0) (written : O → Option (List ℕ)) (write_faults : O → ℕ) (bytes : D → Option (List ℕ)) (faults : D → ℕ)
    (base : StoreBasis) (before after : List (I × O)) (disk kept : D) (outcome : Outcome) (service : StoreEnd) (rx_ends : List RxEndValue) (tx_ends : List TxEndValue) : Type 0 where
  pub one : OnlyOne before after rx_ends tx_ends
  pub why : Cause
  pub outcome_is : outcome ≡ told_of 0 why
  pub records : List Record
  pub served : LinkServed taken left read_faults written write_faults base one.link one.now (faults disk) (faults kept) why service one.rx_end one.tx_end records
  pub log : LogCame (bytes disk) (bytes kept) base (says service.history) service.trail records
  pub struck : (at : ℕ) → (standing_at_end base (says service.history) service.trail).fault ≡ Some at → Rose (faults disk) (faults kept)
  pub due : OnlyDueReads reads base.told base.limit base.records one.link.0 one.now.0 served.run
