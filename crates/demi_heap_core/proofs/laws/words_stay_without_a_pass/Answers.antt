use Rattle.demi_heap_core.specs.Schedule.{passing}
use Rattle.demi_heap_core.proofs.Schedules as law
use Rattle.demi_heap_core.proofs.laws.words_stay_without_a_pass.Goals as goal

pub returns : goal.returns
returns g c fits s t id v x = law.words_stay (passing fits) c.args.shape.now s t id v x
