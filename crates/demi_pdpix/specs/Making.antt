-- How the whole is made.
use Rattle.std.specs.Prelude.{◌≡◌, ◌+◌, ◌≤◌, ℕ, Bool, true, false, [], All, map, length, vec_capacity}
use Rattle.demi_heap.specs.Seen.{HeapId}
use Rattle.demi_logq.specs.Answers.{LogBasis}
use Rattle.demi_port.specs.Seen.{DeviceValue, IsNewPass}
use Rattle.demi_pdpix.specs.declared.dealing.Room.{Room}
use Rattle.demi_pdpix.specs.declared.ports.Ports.{Ports}
use Rattle.demi_pdpix.specs.declared.ports.PortSeats.{PortSeats}
use Rattle.demi_pdpix.specs.Lanes.{AreNewLanes, HasLeft, IsEmpty, IsNewLane, LaneValue, port_of}
use Rattle.demi_pdpix.specs.Seen.{AreNewAt, CallerValue, DemiId, Pair}

-- the base of a log's queue, on this heap
abbrev pub log_on : LogBasis → HeapId → LogBasis
log_on b heap = record b { heap = heap }

-- how many ports there are for a log
abbrev pub logs : Bool → ℕ
logs true = 1
logs false = 0

-- the lane without its passes at home
abbrev pub outline : {D T B : Type 0} → LaneValue D T B → LaneValue D T B
outline l = record l { home = [] }

-- the whole of this heap and these ports
abbrev pub whole_of : {L P O S T B : Type 0} → HeapId → Ports L P O S T B → ℕ → DemiId B
whole_of heap p callers = record { heap = heap; memory = p.memory.port; service = p.service.port; journal = map port_of p.journal.items; rx = map port_of p.rx.items; tx = map port_of p.tx.items; callers = callers }

-- new ports, with so many tokens and passes each, and the seats of their devices. The base of the service and of the log's queue are given, and each port but the service stands on this heap
pub record AreNewPorts {L P O S T B : Type 0} (heap : HeapId) (service_base : B) (log_base : LogBasis) (tokens callers : ℕ) (p : Ports L P O S T B) (s : PortSeats L P O S T B) : Type 0 where
  pub memory : IsNewLane heap tokens callers p.memory s.memory
  pub service : IsNewLane service_base tokens callers p.service s.service
  pub journal : AreNewLanes (log_on log_base heap) tokens callers p.journal.items s.journal.items
  pub rx : AreNewLanes heap tokens callers p.rx.items s.rx.items
  pub tx : AreNewLanes heap tokens callers p.tx.items s.tx.items

-- there are so many ports for logs and for links
pub record AreAsMany {L P O S T B : Type 0} (journals links : ℕ) (p : Ports L P O S T B) : Type 0 where
  pub journal : length p.journal.items ≡ journals
  pub rx : length p.rx.items ≡ links
  pub tx : length p.tx.items ≡ links

-- of each port so many passes are still at home, with the numbers from 0
pub record HaveLeft {L P O S T B : Type 0} (n : ℕ) (p : Ports L P O S T B) : Type 0 where
  pub memory : HasLeft n p.memory
  pub service : HasLeft n p.service
  pub journal : All (HasLeft n) p.journal.items
  pub rx : All (HasLeft n) p.rx.items
  pub tx : All (HasLeft n) p.tx.items

-- the same ports, but for the passes at home
pub record AreSamePorts {L P O S T B : Type 0} (p q : Ports L P O S T B) : Type 0 where
  pub memory : outline q.memory ≡ outline p.memory
  pub service : outline q.service ≡ outline p.service
  pub journal : map outline q.journal.items ≡ map outline p.journal.items
  pub rx : map outline q.rx.items ≡ map outline p.rx.items
  pub tx : map outline q.tx.items ≡ map outline p.tx.items

-- there is room for a pass of each port for a log or a link
pub record IsRoom (journals links : ℕ) (r : Room) : Type 0 where
  pub journal : (r.journal.items ≡ []) × (journals ≤ vec_capacity r.journal)
  pub rx : (r.rx.items ≡ []) × (links ≤ vec_capacity r.rx)
  pub tx : (r.tx.items ≡ []) × (links ≤ vec_capacity r.tx)

-- the passes of a caller are new ones of these ports, with the number n
pub record AreNewPasses {L P O S T B : Type 0} (p : Ports L P O S T B) (n : ℕ) (c : CallerValue S T B) : Type 0 where
  pub memory : IsNewPass p.memory.port n c.memory
  pub service : IsNewPass p.service.port n c.service
  pub journal : AreNewAt n c.journal (map port_of p.journal.items)
  pub rx : AreNewAt n c.rx (map port_of p.rx.items)
  pub tx : AreNewAt n c.tx (map port_of p.tx.items)

-- Ports all of whose passes are with so many callers. Each but the service stands on this heap; there is one for a log at most, and for each link one of each kind; and the
-- heap has a pass for each caller and for each port's device.
pub record AreDealt {L P O S T B : Type 0} (heap : HeapId) (callers : ℕ) (p : Ports L P O S T B) : Type 0 where
  pub memory : IsEmpty callers p.memory
  pub service : IsEmpty callers p.service
  pub journal : All (IsEmpty callers) p.journal.items
  pub rx : All (IsEmpty callers) p.rx.items
  pub tx : All (IsEmpty callers) p.tx.items
  pub memory_base : p.memory.port.key.base ≡ heap
  pub journal_base : All (λ l. l.port.key.base.heap ≡ heap) p.journal.items
  pub rx_base : All (λ l. l.port.key.base ≡ heap) p.rx.items
  pub tx_base : All (λ l. l.port.key.base ≡ heap) p.tx.items
  pub few : length p.journal.items ≤ 1
  pub even : length p.tx.items ≡ length p.rx.items
  pub passes : heap.shape.passes ≡ callers + 2 + length p.journal.items + length p.rx.items + length p.tx.items

-- the seat of a pair
abbrev pub seat_of : {D T B : Type 0} → Pair D T B → DeviceValue D T B
seat_of s = s.0
