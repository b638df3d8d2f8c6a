use Rattle.demi_store.proofs.tests.served.submit.Goals as goal

pub submit-requires-clause-proper : goal.submit-requires-clause-proper
submit-requires-clause-proper g c κs = c.op_of.ensures.proper c.args.port.now.key.base
