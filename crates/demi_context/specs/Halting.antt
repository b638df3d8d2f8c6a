-- What a caller does that stops a port, by the port's kind.
use Rattle.std.specs.Prelude.{◌≡◌, ℕ, ◌<◌, length}
use Rattle.demi_port.specs.Seen.{PassValue, known_by}
use Rattle.demi_port_core.specs.Trails.{Behind}
use Rattle.demi_memq.specs.declared.op.MemOp.TheVariants as memory
use Rattle.demi_streamq.specs.Receiving.{RxAdmits}
use Rattle.demi_streamq.specs.Sending.{TxAdmits}
use Rattle.demi_streamq.specs.declared.rx_op.RxOp.TheVariants as receiving
use Rattle.demi_streamq.specs.declared.rx_out.RxOut.{RxOut}
use Rattle.demi_streamq.specs.declared.tx_op.TxOp.TheVariants as sending
use Rattle.demi_streamq.specs.declared.tx_out.TxOut.{TxOut}
use Rattle.demi_pdpix.specs.declared.kind.PortKind.{PortKind}
use Rattle.demi_pdpix.specs.declared.kind.PortKind.TheVariants.{Memory, Service, Journal, Receiving, Sending, Nowhere}
use Rattle.demi_link.specs.Sights.{Redeems, Side, Submits, side_of}
use Rattle.demi_worker.specs.Stopping.{Stops}
use Rattle.demi_closed.specs.Closed.{Added}
use Rattle.demi_context.specs.ContextPorts.{Caller, OwesSame, SameButMemory, SameButRx, SameButTx, SameMemory, SameRx, SameRxBut, SameStore, SameTx, SameTxBut, Whole, side_at}
use Rattle.demi_closed.specs.OnlyLink.{store_stop}

-- Of the caller nothing has changed but its looks.
pub record HasLooked (c e : Caller) : Type 0 where
  pub memory : SameMemory c e
  pub sides : SameButMemory c e
  pub owes : OwesSame c e

-- this was submitted with the token, at some place
abbrev pub Gives : {D T : Type 0} → ℕ → D → Side D T → Side D T → Type 0
Gives token said p q = (place : ℕ) × Submits place p q token said

-- With the token the stop of the port of this kind was submitted, and at the ports of others nothing changed. Of a log's queue nothing
-- is said.
abbrev pub GivesStop : Whole → PortKind → ℕ → Caller → Caller → Type 0
GivesStop d Memory token c e = Gives token memory.Stop (side_of c.memory) (side_of e.memory) × SameButMemory c e
GivesStop d Service token c e = Gives token store_stop (side_of c.service) (side_of e.service) × SameMemory c e × SameRx c e × SameTx c e
GivesStop d Journal token c e = Unit {0}
GivesStop d (Receiving k) token c e = k < length d.rx → Gives token receiving.Stop (side_at c.rx k) (side_at e.rx k) × SameButRx k c e
GivesStop d (Sending k) token c e = k < length d.tx → Gives token sending.Stop (side_at c.tx k) (side_at e.tx k) × SameButTx k c e
GivesStop d Nowhere token c e = ⊥

-- the pass submitted nothing more, and what it knew is not taken back
abbrev pub Learns : {D T B : Type 0} → PassValue D T B → PassValue D T B → Type 0
Learns p q = (q.submitted ≡ p.submitted) × Behind (known_by q) (known_by p)

-- The token was redeemed at the port of this kind, and at the ports of others nothing changed.
abbrev pub Takes : Whole → PortKind → ℕ → Caller → Caller → Type 0
Takes d Memory token c e = Learns c.memory e.memory × SameButMemory c e
Takes d Service token c e = Learns c.service e.service × SameMemory c e × SameRx c e × SameTx c e
Takes d Journal token c e = Unit {0}
Takes d (Receiving k) token c e = k < length d.rx → ((place : ℕ) × (o : RxOut) × Redeems (λ h t p. RxAdmits h t p o) token place (side_at c.rx k) (side_at e.rx k)) × SameButRx k c e
Takes d (Sending k) token c e = k < length d.tx → ((place : ℕ) × (o : TxOut) × Redeems (λ h t p. TxAdmits h t p o) token place (side_at c.tx k) (side_at e.tx k)) × SameButTx k c e
Takes d Nowhere token c e = ⊥

-- The port of this kind was stopped, its stop was redeemed, and at the ports of others nothing changed.
abbrev pub HaltsAt : Whole → PortKind → Caller → Caller → Type 0
HaltsAt d Memory c e = Added memory.Stop (side_of c.memory) e.memory × SameButMemory c e
HaltsAt d Service c e = Added store_stop (side_of c.service) e.service × SameMemory c e × SameRx c e × SameTx c e
HaltsAt d Journal c e = Unit {0}
HaltsAt d (Receiving k) c e = k < length d.rx → Stops (λ o h t p. RxAdmits h t p o) receiving.Stop (side_at c.rx k) (side_at e.rx k) × SameButRx k c e
HaltsAt d (Sending k) c e = k < length d.tx → Stops (λ o h t p. TxAdmits h t p o) sending.Stop (side_at c.tx k) (side_at e.tx k) × SameButTx k c e
HaltsAt d Nowhere c e = ⊥

-- Both ports of a link were stopped, both stops were redeemed, and neither at the memory queues and the store's port nor at those of other links anything changed.
pub record LinkHalts (link : ℕ) (c e : Caller) : Type 0 where
  pub rx : Stops (λ o h t p. RxAdmits h t p o) receiving.Stop (side_at c.rx link) (side_at e.rx link)
  pub tx : Stops (λ o h t p. TxAdmits h t p o) sending.Stop (side_at c.tx link) (side_at e.tx link)
  pub store : SameStore c e
  pub memory : SameMemory c e
  pub others : SameRxBut link c e × SameTxBut link c e
