use Rattle.std.proofs.Common.{◌∙◌, ap}
use Rattle.demi_sched.specs.Holding.{SchedulerValue}
use Rattle.demi_sched.proofs.Turns.{same_length}
use Rattle.demi_sched.proofs.tests.round.Goals as goal

pub returns : goal.returns
returns c = let e = c.round.ensures in let old = c.args.scheduler.now.held in let new = c.round.new.self.held in
    (ap (λ (v : SchedulerValue _). v.ports) e.same ∙ c.requires, same_length _ old new e.turned)
