-- What a link heard that is over.
use Rattle.std.specs.Prelude.{◌≡◌, ℕ, ◌<◌, List, [], ◌∷◌, ◌++◌, Some}
use Rattle.demi_port_core.specs.History.{Among}
use Rattle.demi_spec.specs.Input.{Asked}
use Rattle.demi_store.specs.Laws.{Admits, StoreBasis}
use Rattle.demi_store.specs.declared.answer.StoreAnswer.{StoreAnswer}
use Rattle.demi_store.specs.declared.answer.StoreAnswer.TheVariants as said
use Rattle.demi_store.specs.declared.op.StoreOp.{StoreOp}
use Rattle.demi_store.specs.declared.out.StoreOut.{StoreOut}
use Rattle.demi_streamq.specs.Sending.{TxAdmits}
use Rattle.demi_streamq.specs.declared.rx_out.RxOut.{RxOut}
use Rattle.demi_streamq.specs.declared.rx_out.RxOut.TheVariants as rx
use Rattle.demi_streamq.specs.declared.tx_op.TxOp.{TxOp}
use Rattle.demi_streamq.specs.declared.tx_out.TxOut.{TxOut}
use Rattle.demi_streamq.specs.declared.tx_out.TxOut.TheVariants as tx
use Rattle.demi_served.specs.Asking.{asks_for, ask_of}
use Rattle.demi_served.specs.Keeps.{IsDrawn, Worker}
use Rattle.demi_link.specs.Sights.{Side}

-- a read failed, that of this pop or of one before it
abbrev pub IsReadFault : RxOut → Type 0
IsReadFault (rx.Fault count) = Unit {0}
IsReadFault (rx.Broken place) = Unit {0}
IsReadFault other = ⊥

-- a write failed, that of this push or of one before it
abbrev pub IsWriteFault : TxOut → Type 0
IsWriteFault (tx.Fault count) = Unit {0}
IsWriteFault (tx.Broken place) = Unit {0}
IsWriteFault other = ⊥

-- the disk failed, at this operation or at one before it
abbrev pub IsLogFault : StoreAnswer → Type 0
IsLogFault said.Fault = Unit {0}
IsLogFault (said.Broken place) = Unit {0}
IsLogFault other = ⊥

-- memory was refused
abbrev pub IsMemoryFault : StoreAnswer → Type 0
IsMemoryFault said.NoMemory = Unit {0}
IsMemoryFault other = ⊥

-- The last of these outcomes is such.
pub record LastCame (P : RxOut → Type 0) (outs : List (ℕ × RxOut)) : Type 0 where
  pub before : List (ℕ × RxOut)
  pub last : ℕ × RxOut
  pub all : outs ≡ before ++ last ∷ []
  pub is : P last.1

-- By what the pass was handed, an outcome that is such is admitted at this place, and is final there.
pub record CameAt (P : TxOut → Type 0) (p : Side TxOp ℕ) (place : ℕ) : Type 0 where
  pub outcome : TxOut
  pub admitted : TxAdmits p.known.heard p.known.told place outcome
  pub below : place < p.known.floor
  pub is : P outcome

-- The store was asked the link's request of this index, and by what the pass was handed, an outcome whose answer is such is
-- admitted there and final.
pub record WasTold (P : StoreAnswer → Type 0) (base : StoreBasis) (w : Worker) (link index : ℕ) (request : Asked) : Type 0 where
  pub asked : StoreOp
  pub asks : ask_of link index request ≡ Some (asks_for asked)
  pub sequence : ℕ
  pub drawn : IsDrawn w.draws sequence (record { link = link; index = index; request = request })
  pub place : ℕ
  pub token : ℕ
  pub here : Among (place, (token, record { sequence = sequence; op = asked })) w.submitted
  pub outcome : StoreOut
  pub admitted : Admits base w.known.heard w.known.told place outcome
  pub below : place < w.known.floor
  pub is : P outcome.answer
