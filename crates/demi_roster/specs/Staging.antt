-- How far the work of a worker has come, and how it stands before it.
use Rattle.std.specs.Prelude.{ℕ, [], Option}
use Rattle.demi_link.specs.Sights.{side_of}
use Rattle.demi_link.specs.Linked.{LinkValue}
use Rattle.demi_memq.specs.declared.op.MemOp.TheVariants as memory
use Rattle.demi_pdpix.specs.Owing.{Owes}
use Rattle.demi_pdpix.specs.Seen.{IsOf}
use Rattle.demi_port_core.specs.declared.place.QToken.{QToken}
use Rattle.demi_sched.specs.Holding.{SchedulerValue}
use Rattle.demi_closed.specs.Closed.{Added}
use Rattle.demi_closed.specs.OnlyLink.{store_stop}
use Rattle.demi_context.specs.ContextPorts.{Caller, SameRx, SameTx, Whole}
use Rattle.demi_sharing.specs.Setting.{IsSetOut}
use Rattle.demi_crew.specs.Serving.{HasLinks, IsEmpty}
use Rattle.demi_roster.specs.Hands.{StageValue}
use Rattle.demi_roster.specs.Hands as value
use Rattle.demi_roster.specs.declared.hand.stage.Stage.{Stage}
use Rattle.demi_roster.specs.declared.hand.stage.Stage.TheVariants.{Between, Done, Ready}

-- what contracts see of it
abbrev pub stage_of : Stage → StageValue
stage_of (Ready caller opening bench) = value.Ready caller opening
stage_of (Done caller ended) = value.Done caller ended.items
stage_of Between = value.Between

-- The worker of this number, of a whole with so many links, has a caller that is set out, and a scheduler with room for all links.
pub record IsAtBench (demi : Whole) (number links : ℕ) (caller : Caller) (opening : Option QToken) (bench : SchedulerValue LinkValue) : Type 0 where
  pub whole : HasLinks links demi
  pub set_out : IsSetOut demi number opening caller
  pub empty : IsEmpty links links bench

-- a worker whose work has not begun stands so
abbrev pub IsReady : Whole → ℕ → ℕ → Stage → Type 0
IsReady demi number links (Ready caller opening bench) = IsAtBench demi number links caller opening bench
IsReady demi number links (Done caller ended) = Unit {0}
IsReady demi number links Between = Unit {0}

-- A caller of this whole stopped the memory queues and the store, and redeemed both stops; of its ports it stopped no other.
pub record StopsShared (demi : Whole) (before after : Caller) : Type 0 where
  pub of : IsOf demi after
  pub memory_stop : Added memory.Stop (side_of before.memory) after.memory
  pub store_stops : Added store_stop (side_of before.service) after.service
  pub rx : SameRx before after
  pub tx : SameTx before after
  pub owes : (n : ℕ) → Owes demi n [] before → Owes demi n [] after
