use Rattle.std.proofs.Common.{◌≡◌, take}
use Rattle.demi_sched.specs.Waiting.{count_due}
use Rattle.demi_sched.proofs.holding.count_due.Given as goal

abbrev pub invariant-loop-held : goal.invariant-loop-held
invariant-loop-held g l = l.due ≡ count_due (take l.held-index l.held-items)
