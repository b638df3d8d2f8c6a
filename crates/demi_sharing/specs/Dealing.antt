-- What a caller did at the port of the memory queues, and how the numbers of a session's links are dealt out there.
use Rattle.std.specs.Prelude.{◌≡◌, ℕ, Bool, true, false, List, [], ◌∷◌, ◌++◌, Some, length}
use Rattle.std.specs.List.{AllZip}
use Rattle.demi_heap.specs.Seen.{HalfValue}
use Rattle.demi_port_core.specs.Trails.{Behind}
use Rattle.demi_link.specs.Sights.{Side}
use Rattle.demi_memq.specs.Counting.{result_at}
use Rattle.demi_memq.specs.declared.op.MemOp.{MemOp}
use Rattle.demi_memq.specs.declared.op.MemOp.TheVariants.{Queue, Push, Pop, Close}
use Rattle.demi_memq.specs.declared.out.MemOut.{MemOut}
use Rattle.demi_memq.specs.declared.out.MemOut.TheVariants.{Opened, Pushed, Shut, Closed, Item}
use Rattle.demi_served.specs.Served.{Placed}
use Rattle.demi_served.specs.Sharing.{number_of}

-- a pass of the port of the memory queues, but for its looks
abbrev pub MemSide : Type 0
MemSide = Side MemOp (Unit {0})

-- what an operation says, and what it came to
abbrev pub Deed : Type 0
Deed = MemOp × MemOut

-- The pass submitted one operation more, and was handed what it came to.
pub record Does (d : Deed) (p q : MemSide) : Type 0 where
  pub place : ℕ
  pub token : ℕ
  pub submitted : q.submitted ≡ p.submitted ++ (place, (token, d.0)) ∷ []
  pub grows : Behind q.known p.known
  pub came : result_at 1024 q.known.heard place ≡ Some d.1

-- It did each of these, one after another, and nothing else.
abbrev pub DoesEach : List Deed → MemSide → MemSide → Type 0
DoesEach [] p q = (q.submitted ≡ p.submitted) × Behind q.known p.known
DoesEach (d ∷ deeds) p q = (m : MemSide) × Does d p m × DoesEach deeds m q

-- a push of this number on queue 0, that was accepted
abbrev pub IsPushOf : ℕ → Deed → Type 0
IsPushOf number d = (sga : List HalfValue) × (d ≡ (Push 0 sga, Pushed)) × (number_of sga ≡ number)

-- a pop from queue 0 that got this number
abbrev pub IsPopOf : ℕ → Deed → Type 0
IsPopOf number d = (sga : List HalfValue) × (d ≡ (Pop 0, Item sga)) × (number_of sga ≡ number)

-- The pass made queue 0, pushed the number of each of so many links there, in order, and closed it.
pub record DealsOut (links : ℕ) (p q : MemSide) : Type 0 where
  pub pushes : List Deed
  pub are : Placed IsPushOf 0 pushes
  pub many : length pushes ≡ links
  pub did : DoesEach ((Queue, Opened 0) ∷ pushes ++ (Close 0, Shut) ∷ []) p q

-- The pass popped these numbers from queue 0, in order, and then was told that it is closed.
pub record TakesUp (numbers : List ℕ) (p q : MemSide) : Type 0 where
  pub pops : List Deed
  pub are : AllZip IsPopOf numbers pops
  pub did : DoesEach (pops ++ (Pop 0, Closed) ∷ []) p q

-- The pass, which had done nothing, took up these numbers. Where it is that of the first worker it dealt out those of so many links before.
abbrev pub Shares : Bool → ℕ → List ℕ → MemSide → Type 0
Shares true links numbers q = (p : MemSide) × (m : MemSide) × (p.submitted ≡ []) × DealsOut links p m × TakesUp numbers m q
Shares false links numbers q = (p : MemSide) × (p.submitted ≡ []) × TakesUp numbers p q
