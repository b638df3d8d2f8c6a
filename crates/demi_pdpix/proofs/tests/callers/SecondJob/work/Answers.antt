use Rattle.std.proofs.Common.{[]}
use Rattle.demi_pdpix.proofs.tests.callers.SecondJob.work.Goals as goal

pub shared_stopped-requires : goal.shared_stopped-requires
shared_stopped-requires g c = c.came-double.ensures.owes 1 [] (c.asked-token.ensures.owes 1 [] c.byte_popped.ensures)
