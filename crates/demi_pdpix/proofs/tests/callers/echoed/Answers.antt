use Rattle.std.proofs.Common.{[]}
use Rattle.demi_pdpix.proofs.tests.callers.echoed.Goals as goal

pub pushed-requires-clause-caller : goal.pushed-requires-clause-caller
pushed-requires-clause-caller g c = c.came.ensures.owes 0 [] (c.popped-token.ensures.owes 0 [] c.requires)
