use Rattle.std.proofs.Common.{arith}
use Rattle.demi_audit.proofs.Raising.{worker_more}
use Rattle.demi_audit.proofs.ahead.raise_each.Goals as goal

pub workers-preserved : goal.workers-preserved
workers-preserved c = λ f was.
    let k = c.of_worker-from.ensures in
    worker_more c.args.places.now c.requires.placing.0 f c.workers.table c.raise.new.table c.workers.worker c.of_worker-from.result.0 c.of_worker-from.result.1 c.requires.placing.1
    (omega arith) k.start k.count c.raise.ensures.raised c.raise.ensures.others (c.workers.invariant f was)

pub returns : goal.returns
returns c = λ f was w s d there. (c.workers.invariant f was).done w s d there (omega (arith, there.0))
