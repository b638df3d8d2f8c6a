use Rattle.demi_server.proofs.Outcomes.{next_outcome}
use Rattle.demi_server.proofs.outcome.outcome_of.Goals as goal

pub loop-k-preserved : goal.loop-k-preserved
loop-k-preserved c = next_outcome c.args.causes.now c.loop-k.k _ c.loop-k.outcome c.told_by.result c.lower-outcome.result c.loop-k-test.true c.loop-k.invariant c.told_by.ensures c.lower-outcome.ensures
