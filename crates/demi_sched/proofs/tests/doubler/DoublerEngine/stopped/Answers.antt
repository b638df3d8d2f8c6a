use Rattle.std.proofs.Common.{sym}
use Rattle.demi_sched.proofs.Calm.{none_stops}
use Rattle.demi_sched.proofs.tests.doubler.DoublerEngine.stopped.Goals as goal

pub returns : goal.returns
returns c = sym (none_stops 0 c.args.self.now.history.value)
