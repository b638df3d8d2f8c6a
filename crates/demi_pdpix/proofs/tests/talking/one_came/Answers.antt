use Rattle.demi_pdpix.proofs.Outstanding.{owes_but}
use Rattle.demi_pdpix.proofs.tests.talking.one_came.Goals as goal

pub returns-clause-owes : goal.returns-clause-owes
returns-clause-owes g c who owes = owes_but _ c.args.demi.now who c.args.caller.now c.wait_any.new.caller c.in-Ready.ensures.of c.args.tokens.now c.in-Ready.i c.in-Ready.field-1 c.in-Ready.came c.in-Ready.ensures.waited owes
