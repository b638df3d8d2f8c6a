use Rattle.std.proofs.Common.{[], ◌∷◌}
use Rattle.demi_pdpix.proofs.tests.callers.shared_stopped.Goals as goal

pub returns : goal.returns
returns g c = let queues = c.stopped-queues in
    c.all_came-results.ensures.owes 1 (c.asked-service.ensures.owes 1 (queues.result ∷ []) (queues.ensures.owes 1 [] c.requires))
