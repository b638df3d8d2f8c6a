-- What a worker comes to that serves the links of some numbers.
use Rattle.std.specs.Prelude.{◌≡◌, ℕ, ◌+◌, ◌*◌, ◌≤◌, List, [], length}
use Rattle.demi_port_core.specs.History.{Among, Each}
use Rattle.demi_sched.specs.Going.{Differ}
use Rattle.demi_sched.specs.Holding.{SchedulerValue}
use Rattle.demi_served.specs.Alone.{AsksAll}
use Rattle.demi_served.specs.Keeps.{WorkerKeeps}
use Rattle.demi_link.specs.Ends.{IsKnown}
use Rattle.demi_link.specs.Linked.{LinkValue}
use Rattle.demi_pdpix.specs.Owing.{Owes}
use Rattle.demi_worker.specs.Ending.{IsNew, OwesNothing}
use Rattle.demi_worker.specs.Standing.{HasEnd, HasStopped, SameLinks, ended_links}
use Rattle.demi_worker.specs.declared.ended.Ended.{Ended}
use Rattle.demi_context.specs.ContextPorts.{Caller, Whole, side_at}
use Rattle.demi_context.specs.ContextSights.{ContextValue, ports_of, sight_of, worker_at}

-- A whole has two ports for each of so many links.
abbrev pub HasLinks : ℕ → Whole → Type 0
HasLinks links demi = (length demi.rx ≡ links) × (length demi.tx ≡ links) × (links ≤ 16)

-- The caller with this number did nothing at the ports of the store and of the links, and has nothing outstanding.
pub record IsUnused (demi : Whole) (number : ℕ) (c : Caller) : Type 0 where
  pub store : c.service.submitted ≡ []
  pub rx : (k : ℕ) → (side_at c.rx k).submitted ≡ []
  pub tx : (k : ℕ) → (side_at c.tx k).submitted ≡ []
  pub owes : Owes demi number [] c

-- A scheduler that was never added to, for the ports of so many links, with room for so many coroutines.
pub record IsEmpty (links most : ℕ) (s : SchedulerValue LinkValue) : Type 0 where
  pub ports : s.ports ≡ 3 + 2 * links
  pub held : s.held ≡ []
  pub added : s.added ≡ 0
  pub room : s.room ≡ most
  pub small : most ≤ 64

-- The links of these numbers were served by the worker of this number until each had ended, and their ports were stopped: each is listed
-- once; by what the worker had for it then it was served to this end, was not lost, and nothing is owed; of that nothing changed but that
-- both ports were stopped. For no other link the worker did anything. The store was asked with each number that was drawn for a request
-- that asks it, and the worker kept its own.
pub record ServedLinks (demi : Whole) (number : ℕ) (numbers : List ℕ) (caller : Caller) (ended : List Ended) : Type 0 where
  pub context : ContextValue
  pub demi_is : context.demi ≡ demi
  pub caller_is : context.caller ≡ caller
  pub number_is : context.number ≡ number
  pub links : SameLinks (ended_links ended) numbers
  pub once : Differ (ended_links ended)
  pub known : Each (λ e. IsKnown e.cause) ended
  pub served : Each (HasEnd (ports_of context)) ended
  pub left : Each (HasStopped (sight_of context)) ended
  pub paid : Each (λ e. OwesNothing (sight_of context e.link)) ended
  pub others : (link : ℕ) → (Among link numbers → ⊥) → IsNew number (sight_of context link) link
  pub asks : AsksAll (worker_at context.caller context.ledger)
  pub keeps : WorkerKeeps (worker_at context.caller context.ledger)
  pub owes : Owes demi number [] caller
