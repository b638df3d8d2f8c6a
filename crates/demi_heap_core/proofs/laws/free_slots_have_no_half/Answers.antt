use Rattle.demi_heap_core.specs.Schedule.{passing}
use Rattle.demi_heap_core.proofs.Schedules as law
use Rattle.demi_heap_core.proofs.laws.free_slots_have_no_half.Goals as goal

pub returns : goal.returns
returns g c fits s k = law.free_no_half (passing fits) c.args.shape.now s k
