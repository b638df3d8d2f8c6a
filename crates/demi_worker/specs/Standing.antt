-- How a worker stands between two rounds.
use Rattle.std.specs.Prelude.{◌≡◌, ◌≢◌, ◌↔◌, ℕ, ◌+◌, ◌≤◌, List, [], ◌∷◌, ◌++◌, length}
use Rattle.demi_port_core.specs.History.{Among, Each}
use Rattle.demi_sched.specs.Going.{Differ, names_of}
use Rattle.demi_sched.specs.Holding.{SchedulerValue}
use Rattle.demi_sched.specs.declared.held.Held.{Held}
use Rattle.demi_served.specs.Keeps.{LinkKeeps, WorkerKeeps}
use Rattle.demi_link.specs.Ends.{IsKnown}
use Rattle.demi_link.specs.Fitting.{Fits}
use Rattle.demi_link.specs.Linked.{LinkValue}
use Rattle.demi_link.specs.Sights.{LeavesBe, Sight, worker_of}
use Rattle.demi_worker.specs.Ending.{IsServed, OwesNothing}
use Rattle.demi_worker.specs.Stopping.{IsLeft}
use Rattle.demi_worker.specs.declared.ended.Ended.{Ended}

-- the links that a scheduler holds
abbrev pub held_links : List (Held LinkValue) → List ℕ
held_links held = names_of (λ k. k.desk.link) held

-- the links of a list of ends
abbrev pub ended_links : List Ended → List ℕ
ended_links [] = []
ended_links (e ∷ ended) = e.link ∷ ended_links ended

-- the links that a worker took in: those that it still serves, and those that have ended
abbrev pub taken_in : List (Held LinkValue) → List Ended → List ℕ
taken_in held ended = held_links held ++ ended_links ended

-- these are the links of those
abbrev pub SameLinks : List ℕ → List ℕ → Type 0
SameLinks xs ys = (link : ℕ) → Among link xs ↔ Among link ys

-- of every link that is none of these is left as it is what others leave
abbrev pub LeavesOthers : List ℕ → (ℕ → Sight) → (ℕ → Sight) → Type 0
LeavesOthers links before after = (link : ℕ) → Each (λ n. n ≢ link) links → LeavesBe link (before link) (after link)

-- what its worker has for a link agrees with what the link did
abbrev pub IsFit : ℕ → (ℕ → Sight) → Held LinkValue → Type 0
IsFit ports sight h = Fits ports (sight h.coroutine.desk.link) h.coroutine.desk h.coroutine.phase

-- the end of a link is that of one that was served
abbrev pub HasEnd : ℕ → Ended → Type 0
HasEnd ports e = IsServed ports e.link e.cause e.talk.value e.had.value

-- what its worker has for a link that has ended is what it had then, with both ports stopped
abbrev pub HasStopped : (ℕ → Sight) → Ended → Type 0
HasStopped sight e = IsLeft e.link e.had.value (sight e.link)

-- what its worker has for a link that has ended is what the link kept, and the worker keeps its own
abbrev pub HasKept : (ℕ → Sight) → Ended → Type 0
HasKept sight e = LinkKeeps (sight e.link).base (worker_of (sight e.link)) e.link e.talk.value.kept × WorkerKeeps (worker_of (sight e.link))

-- where it was not lost, its worker owes nothing for a link that has ended
abbrev pub HasPaid : (ℕ → Sight) → Ended → Type 0
HasPaid sight e = IsKnown e.cause → OwesNothing (sight e.link)

-- How a worker stands that has these sights on so many ports, and holds these links, and has listed these ends: each link that
-- it holds fits; each that has ended was served, and its ports were stopped; and none of those is another.
pub record Stands (there : ℕ) (sight : ℕ → Sight) (s : SchedulerValue LinkValue) (ended : List Ended) : Type 0 where
  pub ports : there ≡ s.ports
  pub fits : Each (IsFit there sight) s.held
  pub served : Each (HasEnd there) ended
  pub stopped : Each (HasStopped sight) ended
  pub once : Differ (ended_links ended)
  pub apart : Each (λ link. Each (λ n. n ≢ link) (held_links s.held)) (ended_links ended)
  pub room : length s.held + length ended ≤ s.room
  pub small : s.room ≤ 64
  pub added : s.added ≤ length s.held + length ended
