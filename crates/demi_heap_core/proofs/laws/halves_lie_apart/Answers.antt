use Rattle.demi_heap_core.specs.Schedule.{passing}
use Rattle.demi_heap_core.proofs.Schedules as law
use Rattle.demi_heap_core.proofs.laws.halves_lie_apart.Goals as goal

pub returns : goal.returns
returns g c fits s id v r e = law.apart (passing fits) c.args.shape.now s id v r e
