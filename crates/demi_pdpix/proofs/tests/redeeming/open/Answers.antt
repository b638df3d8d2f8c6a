use Rattle.std.proofs.Common.{[]}
use Rattle.demi_pdpix.proofs.tests.redeeming.open.Goals as goal

pub returns-clause-caller : goal.returns-clause-caller
returns-clause-caller g c = c.came.ensures.owes 0 [] (c.opened-token.ensures.owes 0 [] c.requires.caller)
