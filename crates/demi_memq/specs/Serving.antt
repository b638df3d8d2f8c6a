-- What the rooms of memory queues keep, and what they add.
use Rattle.std.specs.Prelude.{◌≡◌, ◌≢◌, ℕ, ◌+◌, ◌<◌, List, [], ◌∷◌, ◌++◌, Option, Some, None, length, slice_get, option_map}
use Rattle.demi_heap.specs.Seen.{HeapId, HalfValue, PassValue}
use Rattle.demi_port_core.specs.History.{Each}
use Rattle.demi_port_core.specs.declared.place.Place.{Place}
use Rattle.demi_device.specs.Serving.{DoneValue}
use Rattle.demi_sga.specs.Arrays.{AreOf}
use Rattle.demi_memq.specs.Said.{IsFrom, array_said, out_said}
use Rattle.demi_memq.specs.Segments.{given, held}
use Rattle.demi_memq.specs.Counting.{beside, result_at}
use Rattle.demi_memq.specs.declared.op.MemOp.{MemOp}
use Rattle.demi_memq.specs.declared.op.MemOp.TheVariants.{Close, Stop}
use Rattle.demi_memq.specs.declared.out.MemOut.{MemOut}
use Rattle.demi_memq.specs.declared.out.MemOut.TheVariants.{Closed, Stopped}
use Rattle.demi_memq.specs.declared.queues.Queues.{Queues}
use Rattle.demi_memq.specs.Rooms.{RoomsShow, Came}

-- what the arrays say, each beside its queue
abbrev pub items_said : List (ℕ × List HalfValue) → List (ℕ × List HalfValue)
items_said [] = []
items_said (e ∷ es) = (e.0, array_said e.1) ∷ items_said es

-- the rooms are as the history and the outcomes have it
abbrev pub IsKept : List MemOp → List (ℕ × MemOut) → Queues → Type 0
IsKept h f s = RoomsShow 1024 h f s.made s.shut.items (option_map (λ p. p.0) s.stop) (items_said s.waiting.items) s.pending.items

-- they are so once the operation was served, and the outcomes that were added come rightly
abbrev pub Serves : List MemOp → List (ℕ × MemOut) → MemOp → Queues → List (ℕ × MemOut) → Type 0
Serves h f op s added = IsKept (h ++ op ∷ []) (f ++ added) s × Came 1024 (h ++ op ∷ []) f added

-- the arrays that wait are of this heap
abbrev pub ItemsOf : HeapId → List (ℕ × List HalfValue) → Type 0
ItemsOf h w = Each (λ (e : ℕ × List HalfValue). AreOf h e.1) w

-- the pass and the arrays that wait are of the heap
abbrev pub IsSound : Queues → Type 0
IsSound s = (s.pass.heap ≡ s.heap.now) × ItemsOf s.heap.now s.waiting.items

-- The pass has ended halves and done nothing else. The halves that were ended, wait or were given with these outcomes are those
-- that were ended or waited before, and `came` more.
abbrev pub Accounts : PassValue → ℕ → PassValue → ℕ → List (ℕ × MemOut) → ℕ → Type 0
Accounts p w p' w' added came = (p' ≡ record p { returned = p'.returned }) × (p'.returned + w' + given added ≡ p.returned + w + came)

-- the arrays that these outcomes give are of this heap
abbrev pub GivenOf : HeapId → List (ℕ × MemOut) → Type 0
GivenOf h added = Each (λ (o : ℕ × MemOut). IsFrom h o.1) added

-- each pop of q that waits has this outcome
abbrev pub Owes : List MemOp → MemOp → ℕ → List (ℕ × ℕ) → MemOut → Type 0
Owes h op q n o = (i p : ℕ) → slice_get (beside q n) i ≡ Some p → result_at 1024 (h ++ op ∷ []) p ≡ Some (out_said o)

-- each pop that waits has
abbrev pub OwesAll : List MemOp → MemOp → List (ℕ × ℕ) → MemOut → Type 0
OwesAll h op n o = (q : ℕ) → Owes h op q n o

-- the pops of a queue end as it is closed, or as all is stopped at a place
abbrev pub ends_by : ℕ → Option Place → MemOp
ends_by q None = Close q
ends_by q (Some p) = Stop

-- so they come to this
abbrev pub ends_as : Option Place → MemOut
ends_as None = Closed
ends_as (Some p) = Stopped p

-- what waits in other queues is the same
abbrev pub SameOthers : {X : Type 0} → ℕ → List (ℕ × X) → List (ℕ × X) → Type 0
SameOthers q n n' = (j : ℕ) → q ≢ j → beside j n' ≡ beside j n

-- an operation can be served at the place: the rooms are as the history and the outcomes have it, it is the next, and there is room
-- for outcomes, of which none was added yet
pub record IsReady (h : List MemOp) (f : List (ℕ × MemOut)) (s : Queues) (place : ℕ) (d : DoneValue MemOut) : Type 0 where
  pub kept : IsKept h f s
  pub sound : IsSound s
  pub next : place ≡ length h
  pub empty : d.added ≡ []
  pub holds : length h < length f + d.room

-- The operation was served: the rooms are as the history with it has it, the outcomes that were added come rightly and their arrays
-- are of the heap, and each of the segments that came with it waits, was given, or ended.
pub record IsServed (h : List MemOp) (f : List (ℕ × MemOut)) (op : MemOp) (came : ℕ) (s s' : Queues) (d d' : DoneValue MemOut) : Type 0 where
  pub served : Serves h f op s' d'.added
  pub sound : IsSound s'
  pub given : GivenOf s'.pass.heap d'.added
  pub numbers : Accounts s.pass (held s.waiting.items) s'.pass (held s'.waiting.items) d'.added came
  pub room : s'.room ≡ s.room
  pub done : d'.room ≡ d.room
