use Rattle.demi_pdpix.proofs.tests.redeeming.stop.Goals as goal

pub returns-clause-caller : goal.returns-clause-caller
returns-clause-caller g c = let ts = c.args.tokens.now in c.came.ensures.owes 0 ts (c.stopped-token.ensures.owes 0 ts c.requires.caller)
