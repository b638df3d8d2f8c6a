-- How far the work of a worker has come, and how its worker stands before it.
use Rattle.std.specs.Prelude.{◌≡◌, ◌↔◌, ◌⊎◌, ℕ, ◌+◌, ◌<◌, ◌≤◌, [], ◌∷◌, length}
use Rattle.demi_port_core.specs.History.{Among}
use Rattle.demi_link.specs.Sights.{side_of}
use Rattle.demi_memq.specs.declared.op.MemOp.TheVariants as memory
use Rattle.demi_pdpix.specs.Owing.{Owes}
use Rattle.demi_pdpix.specs.Seen.{IsNewCaller, IsOf}
use Rattle.demi_worker.specs.Ending.{IsNew}
use Rattle.demi_worker.specs.Standing.{LeavesOthers, Stands, taken_in}
use Rattle.demi_worker.specs.declared.worker.Worker.{Worker}
use Rattle.demi_closed.specs.Closed.{Added}
use Rattle.demi_context.specs.ContextLedgers.{no_ledger}
use Rattle.demi_context.specs.ContextPorts.{Caller, SameRx, SameTx, Whole}
use Rattle.demi_context.specs.ContextSights.{ContextValue, Goes, ports_of, sight_of}
use Rattle.demi_server.specs.Hands.{StageValue}
use Rattle.demi_server.specs.Hands as value
use Rattle.demi_closed.specs.OnlyLink.{store_stop}
use Rattle.demi_server.specs.declared.hand.stage.Stage.{Stage}
use Rattle.demi_server.specs.declared.hand.stage.Stage.TheVariants.{Between, Done, Ready}

-- what contracts see of it
abbrev pub stage_of : Stage → StageValue
stage_of (Ready worker) = value.Ready worker.context.caller
stage_of (Done caller ended) = value.Done caller ended.items
stage_of Between = value.Between

-- The worker of this number, of this whole with one link, has taken nothing in and has listed nothing; for its context no number was
-- drawn and nothing was submitted or noted; and its caller is new.
pub record IsUnused (demi : Whole) (number : ℕ) (w : Worker ContextValue) : Type 0 where
  pub one : (length demi.rx ≡ 1) × (length demi.tx ≡ 1)
  pub new : IsNewCaller demi number w.context.caller
  pub context : w.context ≡ record { demi = demi; caller = w.context.caller; number = number; ledger = no_ledger; seen = []; begun = 0 }
  pub number_is : w.number ≡ number
  pub held : w.scheduler.held ≡ []
  pub none : w.ended.items ≡ []
  pub room : 1 ≤ w.scheduler.room
  pub stands : Stands (ports_of w.context) (sight_of w.context) w.scheduler w.ended.items

-- a worker whose work has not begun stands so
abbrev pub IsReady : Whole → ℕ → Stage → Type 0
IsReady demi number (Ready worker) = IsUnused demi number worker
IsReady demi number (Done caller ended) = Unit {0}
IsReady demi number Between = Unit {0}

-- A worker may take a link in.
pub record MayTakeIn (link : ℕ) (w : Worker ContextValue) : Type 0 where
  pub stands : Stands (ports_of w.context) (sight_of w.context) w.scheduler w.ended.items
  pub other : Among link (taken_in w.scheduler.held w.ended.items) → ⊥
  pub room : length w.scheduler.held + length w.ended.items < w.scheduler.room
  pub new : IsNew w.number (sight_of w.context link) link

-- A worker took this link in, and no other.
pub record TookIn (link : ℕ) (a b : Worker ContextValue) : Type 0 where
  pub stands : Stands (ports_of b.context) (sight_of b.context) b.scheduler b.ended.items
  pub links : (n : ℕ) → Among n (taken_in b.scheduler.held b.ended.items) ↔ ((n ≡ link) ⊎ Among n (taken_in a.scheduler.held a.ended.items))
  pub number : b.number ≡ a.number
  pub goes : Goes link a.context b.context
  pub others : LeavesOthers (link ∷ []) (sight_of a.context) (sight_of b.context)

-- A caller of this whole stopped the memory queues and the store, and redeemed both stops; of its ports it stopped no other.
pub record StopsShared (demi : Whole) (before after : Caller) : Type 0 where
  pub of : IsOf demi after
  pub memory_stop : Added memory.Stop (side_of before.memory) after.memory
  pub store_stops : Added store_stop (side_of before.service) after.service
  pub rx : SameRx before after
  pub tx : SameTx before after
  pub owes : (n : ℕ) → Owes demi n [] before → Owes demi n [] after
