use Rattle.std.proofs.Common.{[], ◌∷◌}
use Rattle.demi_pdpix.proofs.tests.callers.own_stopped.Goals as goal

pub returns : goal.returns
returns g c = let log = c.stopped-log in let in_ = c.stopped-link_in in
    c.all_came-results.ensures.owes 0 (c.stopped-link_out.ensures.owes 0 (in_.result ∷ log.result ∷ []) (in_.ensures.owes 0 (log.result ∷ []) (log.ensures.owes 0 [] c.requires)))
