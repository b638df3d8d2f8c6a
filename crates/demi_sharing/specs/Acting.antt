-- What a worker's caller does at the memory queues, one call or one operation at a time.
use Rattle.std.specs.Prelude.{◌≡◌, ℕ, ◌<◌, ◌≤◌, Bool, true, false, List, [], ◌∷◌, ◌++◌, Option, Some, None, length}
use Rattle.std.specs.List.{AllZip}
use Rattle.demi_port_core.specs.History.{Among, Each}
use Rattle.demi_port_core.specs.Trails.{Behind}
use Rattle.demi_link.specs.Sights.{side_of}
use Rattle.demi_memq.specs.Counting.{result_at}
use Rattle.demi_memq.specs.Said.{out_said}
use Rattle.demi_memq.specs.declared.op.MemOp.{MemOp}
use Rattle.demi_memq.specs.declared.op.MemOp.TheVariants.{Pop}
use Rattle.demi_memq.specs.declared.out.MemOut.{MemOut}
use Rattle.demi_memq.specs.declared.out.MemOut.TheVariants.{Closed}
use Rattle.demi_pdpix.specs.Owing.{Owes}
use Rattle.demi_pdpix.specs.declared.kind.PortKind.TheVariants.{Memory}
use Rattle.demi_sched.specs.Going.{Differ}
use Rattle.demi_served.specs.Served.{Placed}
use Rattle.demi_context.specs.ContextPorts.{Caller, OwesLess, OwesMore, OwesSame, SameButMemory, Whole, side_at}
use Rattle.demi_sharing.specs.Dealing.{DealsOut, Deed, DoesEach, IsPopOf, IsPushOf, MemSide}

-- The caller submitted this to the memory queues with this token, and nothing else.
pub record Gave (op : MemOp) (token : ℕ) (c e : Caller) : Type 0 where
  pub place : ℕ
  pub submitted : (side_of e.memory).submitted ≡ (side_of c.memory).submitted ++ (place, (token, op)) ∷ []
  pub grows : Behind (side_of e.memory).known (side_of c.memory).known
  pub sides : SameButMemory c e
  pub owes : OwesMore Memory c e

-- The caller redeemed this token of the memory queues and was handed this outcome of the operation that it had submitted with it.
pub record Came (token : ℕ) (out : MemOut) (c e : Caller) : Type 0 where
  pub place : ℕ
  pub own : (k : ℕ) (d : MemOp) → Among (k, (token, d)) (side_of c.memory).submitted → k ≡ place
  pub submitted : (side_of e.memory).submitted ≡ (side_of c.memory).submitted
  pub grows : Behind (side_of e.memory).known (side_of c.memory).known
  pub came : result_at 1024 (side_of e.memory).known.heard place ≡ Some (out_said out)
  pub sides : SameButMemory c e
  pub owes : OwesLess Memory 1 c e

-- The caller did each of these at the memory queues, and nothing else, and owes no more than before.
pub record Acts (deeds : List Deed) (c e : Caller) : Type 0 where
  pub did : DoesEach deeds (side_of c.memory) (side_of e.memory)
  pub sides : SameButMemory c e
  pub owes : OwesSame c e

-- It pushed so many numbers on queue 0, from 0 on.
pub record Pushes (many : ℕ) (c e : Caller) : Type 0 where
  pub deeds : List Deed
  pub are : Placed IsPushOf 0 deeds
  pub count : length deeds ≡ many
  pub acts : Acts deeds c e

-- It popped these numbers from queue 0.
pub record Pops (numbers : List ℕ) (c e : Caller) : Type 0 where
  pub deeds : List Deed
  pub are : AllZip IsPopOf numbers deeds
  pub acts : Acts deeds c e

-- it popped this number, or was told that the queue is closed
abbrev pub PopsOne : Option ℕ → Caller → Caller → Type 0
PopsOne None c e = Acts ((Pop 0, Closed) ∷ []) c e
PopsOne (Some n) c e = (d : Deed) × IsPopOf n d × Acts (d ∷ []) c e

-- no two of these are the same, and they are at most so many, each below that
pub record AreLinks (links : ℕ) (numbers : List ℕ) : Type 0 where
  pub differ : Differ numbers
  pub few : length numbers ≤ links
  pub below : Each (λ n. n < links) numbers

-- the pass did nothing, or where it is the first worker's, it dealt out the numbers of so many links
abbrev pub HasBegun : Bool → ℕ → MemSide → Type 0
HasBegun true links m = (p : MemSide) × (p.submitted ≡ []) × DealsOut links p m
HasBegun false links m = m.submitted ≡ []

-- The caller with this number did nothing but that, and has nothing outstanding.
pub record Began (demi : Whole) (number : ℕ) (first : Bool) (links : ℕ) (c : Caller) : Type 0 where
  pub memory : HasBegun first links (side_of c.memory)
  pub store : c.service.submitted ≡ []
  pub rx : (k : ℕ) → (side_at c.rx k).submitted ≡ []
  pub tx : (k : ℕ) → (side_at c.tx k).submitted ≡ []
  pub owes : Owes demi number [] c
