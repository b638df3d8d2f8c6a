-- All devices of a session: what they are made of, and what of them comes back.
use Rattle.std.specs.Prelude.{◌≡◌, ℕ, ◌+◌, ◌*◌, ◌≤◌, List, [], ◌∷◌, All, Option, length, map}
use Rattle.demi_heap.specs.Seen.{HeapId, IsShape, PassValue as HeapPass}
use Rattle.demi_port.specs.Seen.{PortId}
use Rattle.demi_device.specs.Turning.{WholeDevice}
use Rattle.demi_memq.specs.Said.{is_stop as stops_memory}
use Rattle.demi_store.specs.Engine.{EngineValue}
use Rattle.demi_store.specs.Laws.{StoreBasis, is_stop as stops_store}
use Rattle.demi_store.specs.declared.ask.StoreAsk.{StoreAsk}
use Rattle.demi_store.specs.declared.told.StoreTold.{StoreTold}
use Rattle.demi_pdpix.specs.Seen.{AreNewPairs, DemiId, IsNewPair, LogPair, Pair}
use Rattle.demi_server.specs.Building.{IsLinkNew, IsLinkSpent, IsSpent, LinkDevices, MemDevice, ends_of, rx_of, tx_of}
use Rattle.demi_server.specs.declared.parts.Parts.{Parts}

-- the device of the store
abbrev pub StoreDevice : Type 0 → Type 0
StoreDevice D = WholeDevice (EngineValue D) StoreAsk StoreTold StoreBasis

-- all devices; and what no device has, the store's pass of the heap and what there is for a log's queue
pub record AllDevices (I O D : Type 0) : Type 0 where
  pub memory : MemDevice
  pub store : StoreDevice D
  pub links : List (LinkDevices I O)
  pub service_pass : HeapPass
  pub journal : Option LogPair

-- The parts of devices for this whole, as it was made: new seats of its ports, a store on the base of the service, to which nothing was
-- asked yet, and a link for each two ports. Each port has 64 tokens.
pub record AreFor {I O D : Type 0} (d : DemiId StoreBasis) (p : Parts I O D) : Type 0 where
  pub memory : IsNewPair d.heap d.callers d.memory p.seats.memory
  pub service : IsNewPair d.heap d.callers d.service p.seats.service
  pub rx : AreNewPairs d.heap d.callers d.rx p.seats.rx.items
  pub tx : AreNewPairs d.heap d.callers d.tx p.seats.tx.items
  pub bases : (d.memory.key.base ≡ d.heap) × (d.service.key.base ≡ p.store.base) × All (λ x. x.key.base ≡ d.heap) d.rx × All (λ x. x.key.base ≡ d.heap) d.tx
  pub tokens : (d.memory.tokens.slots ≡ 64) × (d.service.tokens.slots ≡ 64) × All (λ x. x.tokens.slots ≡ 64) d.rx × All (λ x. x.tokens.slots ≡ 64) d.tx
  pub links : (length d.rx ≡ length p.links.items) × (length d.tx ≡ length p.links.items) × (length p.links.items ≤ 16)
  pub unserved : (p.store.served ≡ []) × (p.store.finished ≡ [])

-- The devices have just these parts, each link its own source, sink and seats.
pub record Have {I O D : Type 0} (d : AllDevices I O D) (p : Parts I O D) : Type 0 where
  pub memory : p.seats.memory ≡ (d.memory.seat, d.memory.engine.pass)
  pub store : p.store ≡ d.store.engine
  pub service : p.seats.service ≡ (d.store.seat, d.service_pass)
  pub journal : p.seats.journal ≡ d.journal
  pub links : p.links.items ≡ map ends_of d.links
  pub rx : p.seats.rx.items ≡ map rx_of d.links
  pub tx : p.seats.tx.items ≡ map tx_of d.links

-- The same parts.
pub record AreSameParts {I O D : Type 0} (p q : Parts I O D) : Type 0 where
  pub links : q.links.items ≡ p.links.items
  pub store : q.store ≡ p.store
  pub memory : q.seats.memory ≡ p.seats.memory
  pub service : q.seats.service ≡ p.seats.service
  pub journal : q.seats.journal ≡ p.seats.journal
  pub rx : q.seats.rx.items ≡ p.seats.rx.items
  pub tx : q.seats.tx.items ≡ p.seats.tx.items

-- Nothing was served by any of these devices, and no array waits in the memory queues.
pub record AreUnused {I O D : Type 0} (d : AllDevices I O D) : Type 0 where
  pub memory : (d.memory.engine.served ≡ []) × (d.memory.engine.finished ≡ []) × (d.memory.engine.waits ≡ []) × (d.memory.engine.room ≡ 64)
  pub store : (d.store.engine.served ≡ []) × (d.store.engine.finished ≡ [])
  pub links : All IsLinkNew d.links

-- Each device served all that it fetched, and a stop, or nothing.
pub record AreSpent {I O D : Type 0} (d : AllDevices I O D) : Type 0 where
  pub memory : IsSpent stops_memory (λ e. e.served) d.memory
  pub store : IsSpent stops_store (λ e. e.served) d.store
  pub links : All IsLinkSpent d.links

-- The heap has four small slots, two pages and four large ones for each link, and 64 small ones besides, and a pass for each worker
-- and each device.
abbrev pub HasSlots : ℕ → ℕ → DemiId StoreBasis → Type 0
HasSlots links workers d = IsShape d.heap.shape (record { small = 4 * links + 64; page = 2 * links; large = 4 * links }) (workers + 2 + links + links)

-- The seat of this port's device is there again, and the pass of the heap.
pub record IsBackAt {D T B : Type 0} (heap : HeapId) (callers : ℕ) (port : PortId B) (s : Pair D T B) : Type 0 where
  pub at : s.0.port ≡ port
  pub passes : s.0.passes ≡ callers
  pub pass : s.1.heap ≡ heap

-- so are those of these ports, in order
abbrev pub AreBackAt : {D T B : Type 0} → HeapId → ℕ → List (PortId B) → List (Pair D T B) → Type 0
AreBackAt heap callers [] [] = Unit {0}
AreBackAt heap callers [] (s ∷ ss) = ⊥
AreBackAt heap callers (x ∷ xs) [] = ⊥
AreBackAt heap callers (x ∷ xs) (s ∷ ss) = IsBackAt heap callers x s × AreBackAt heap callers xs ss

-- All seats of the whole are there again.
pub record AreBack {I O D : Type 0} (d : DemiId StoreBasis) (p : Parts I O D) : Type 0 where
  pub memory : IsBackAt d.heap d.callers d.memory p.seats.memory
  pub service : IsBackAt d.heap d.callers d.service p.seats.service
  pub rx : AreBackAt d.heap d.callers d.rx p.seats.rx.items
  pub tx : AreBackAt d.heap d.callers d.tx p.seats.tx.items
