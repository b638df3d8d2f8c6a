use Rattle.demi_heap_core.specs.Schedule.{passing}
use Rattle.demi_heap_core.proofs.Schedules as law
use Rattle.demi_heap_core.proofs.laws.found_owned_was_owned.Goals as goal

pub returns : goal.returns
returns g c fits s id v r e = (law.found (passing fits) c.args.shape.now s r id v e).0
