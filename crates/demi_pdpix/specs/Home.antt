-- How a whole stands once all its threads have ended.
use Rattle.std.specs.Prelude.{◌≡◌, ℕ, ◌≤◌, List, [], ◌∷◌, length}
use Rattle.demi_heap.specs.Seen.{HeapId}
use Rattle.demi_port.specs.Seen.{PortId}
use Rattle.demi_pdpix.specs.declared.seats.Seats.{Seats}
use Rattle.demi_pdpix.specs.Owing.{AreCalm}
use Rattle.demi_pdpix.specs.Seen.{CallerValue, DemiId, Pair, as_list}

-- a seat of this port, which has so many passes, with a pass of the heap, whatever was done with both
pub record IsBack {D T B : Type 0} (heap : HeapId) (callers : ℕ) (port : PortId B) (s : Pair D T B) : Type 0 where
  pub port_is : s.0.port ≡ port
  pub passes : s.0.passes ≡ callers
  pub heap_is : s.1.heap ≡ heap

-- such seats of these ports, in order
abbrev pub AreBack : {D T B : Type 0} → HeapId → ℕ → List (PortId B) → List (Pair D T B) → Type 0
AreBack heap callers [] [] = Unit {0}
AreBack heap callers [] (s ∷ ss) = ⊥
AreBack heap callers (x ∷ xs) [] = ⊥
AreBack heap callers (x ∷ xs) (s ∷ ss) = IsBack heap callers x s × AreBack heap callers xs ss

-- all callers are there, in order, and none of them has anything outstanding, and so are the seats of all ports, of which one at most is for a log
pub record IsHome {L P O S T B : Type 0} (d : DemiId B) (callers : List (CallerValue S T B)) (s : Seats L P O S T B) : Type 0 where
  pub count : length callers ≡ d.callers
  pub calm : AreCalm d 0 callers
  pub few : length d.journal ≤ 1
  pub memory : IsBack d.heap d.callers d.memory s.memory
  pub service : IsBack d.heap d.callers d.service s.service
  pub journal : AreBack d.heap d.callers d.journal (as_list s.journal)
  pub rx : AreBack d.heap d.callers d.rx s.rx.items
  pub tx : AreBack d.heap d.callers d.tx s.tx.items
