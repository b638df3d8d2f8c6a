use Rattle.demi_pdpix.proofs.Outstanding.{owes_less}
use Rattle.demi_pdpix.proofs.Holding.{waited_holds}
use Rattle.demi_pdpix.proofs.tests.talking.came.Goals as goal

pub returns-clause-owes : goal.returns-clause-owes
returns-clause-owes g c who rest owes = owes_less _ c.args.demi.now who c.args.caller.now c.wait.new.caller c.in-Ready.ensures.of c.args.token rest c.in-Ready.field-0 c.in-Ready.came c.in-Ready.ensures.waited owes

pub returns-clause-holds : goal.returns-clause-holds
returns-clause-holds g c = waited_holds _ c.args.demi.now c.args.token c.args.caller.now c.wait.new.caller c.in-Ready.field-0 c.in-Ready.came c.requires c.in-Ready.ensures.waited
