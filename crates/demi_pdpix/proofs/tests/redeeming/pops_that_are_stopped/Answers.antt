use Rattle.std.proofs.Common.{[], ◌∷◌}
use Rattle.demi_pdpix.proofs.tests.redeeming.pops_that_are_stopped.Goals as goal

pub none_has_come-requires : goal.none_has_come-requires
none_has_come-requires g c =
    c.popped-second.ensures.owes 0 (c.popped-first.result ∷ []) (c.popped-first.ensures.owes 0 [] c.open-queue.ensures.caller)
