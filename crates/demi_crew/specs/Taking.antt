-- How far a worker has come that takes in the links of some numbers.
use Rattle.std.specs.Prelude.{◌≡◌, ◌⊎◌, ◌↔◌, ℕ, ◌+◌, ◌<◌, ◌≤◌, List, [], ◌∷◌, length}
use Rattle.demi_port_core.specs.History.{Among}
use Rattle.demi_sched.specs.Going.{Differ}
use Rattle.demi_worker.specs.Ending.{IsNew}
use Rattle.demi_worker.specs.Standing.{LeavesOthers, SameLinks, Stands, taken_in}
use Rattle.demi_worker.specs.declared.worker.Worker.{Worker}
use Rattle.demi_context.specs.ContextPorts.{Caller, SameMemory, Whole}
use Rattle.demi_context.specs.ContextSights.{ContextValue, Goes, ports_of, sight_of}

-- A worker may take this link in.
pub record MayTakeIn (link : ℕ) (w : Worker ContextValue) : Type 0 where
  pub stands : Stands (ports_of w.context) (sight_of w.context) w.scheduler w.ended.items
  pub other : Among link (taken_in w.scheduler.held w.ended.items) → ⊥
  pub room : length w.scheduler.held + length w.ended.items < w.scheduler.room
  pub new : IsNew w.number (sight_of w.context link) link

-- A worker took this link in, and no other.
pub record TookIn (link : ℕ) (a b : Worker ContextValue) : Type 0 where
  pub stands : Stands (ports_of b.context) (sight_of b.context) b.scheduler b.ended.items
  pub links : (n : ℕ) → Among n (taken_in b.scheduler.held b.ended.items) ↔ ((n ≡ link) ⊎ Among n (taken_in a.scheduler.held a.ended.items))
  pub count : length b.scheduler.held + length b.ended.items ≡ length a.scheduler.held + length a.ended.items + 1
  pub room : b.scheduler.room ≡ a.scheduler.room
  pub number : b.number ≡ a.number
  pub goes : Goes link a.context b.context
  pub others : LeavesOthers (link ∷ []) (sight_of a.context) (sight_of b.context)

-- The worker of this number, of this whole and with this caller at first, took in the links of these numbers and no others: for no other
-- link it did anything, and nothing at the port of the memory queues.
pub record HasTaken (demi : Whole) (number : ℕ) (caller : Caller) (numbers : List ℕ) (w : Worker ContextValue) : Type 0 where
  pub demi_is : w.context.demi ≡ demi
  pub number_is : w.context.number ≡ number
  pub same_number : w.number ≡ number
  pub memory : SameMemory caller w.context.caller
  pub stands : Stands (ports_of w.context) (sight_of w.context) w.scheduler w.ended.items
  pub links : SameLinks (taken_in w.scheduler.held w.ended.items) numbers
  pub count : length w.scheduler.held + length w.ended.items ≡ length numbers
  pub new : (link : ℕ) → (Among link numbers → ⊥) → IsNew number (sight_of w.context link) link

-- It took in none yet, and has room for these.
pub record IsReady (demi : Whole) (number : ℕ) (caller : Caller) (numbers : List ℕ) (w : Worker ContextValue) : Type 0 where
  pub none : HasTaken demi number caller [] w
  pub differ : Differ numbers
  pub room : length numbers ≤ w.scheduler.room
