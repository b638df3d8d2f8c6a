-- What the turns of a worker come to.
use Rattle.std.specs.Prelude.{◌≡◌, ℕ, List}
use Rattle.demi_port_core.specs.History.{Within}
use Rattle.demi_port_core.specs.Trails.{StartsWith}
use Rattle.demi_sched.specs.Going.{GoesWithin}
use Rattle.demi_sched.specs.Holding.{SchedulerValue}
use Rattle.demi_link.specs.Linked.{LinkValue}
use Rattle.demi_worker.specs.Standing.{SameLinks, held_links, taken_in}
use Rattle.demi_worker.specs.declared.ended.Ended.{Ended}

-- From this context, these held links and these ends on a worker served its links: it took none in and lost none, listed some
-- more behind those that were listed, and its context went by those that it held.
pub record WentOn {C : Type 0} (goes : ℕ → C → C → Type 0) (a b : C) (s t : SchedulerValue LinkValue) (before after : List Ended) : Type 0 where
  pub within : Within (held_links t.held) (held_links s.held)
  pub links : SameLinks (taken_in t.held after) (taken_in s.held before)
  pub front : StartsWith after before
  pub same : t ≡ record s { held = t.held }
  pub way : GoesWithin goes (held_links s.held) a b
