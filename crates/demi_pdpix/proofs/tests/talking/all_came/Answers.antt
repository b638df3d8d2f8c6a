use Rattle.std.proofs.Common.{◌≡◌}
use Rattle.std.specs.Prelude.{None}
use Rattle.demi_pdpix.proofs.TwoCallers.{all_owes}
use Rattle.demi_pdpix.proofs.tests.talking.all_came.Goals as goal

pub returns-clause-owes : goal.returns-clause-owes
returns-clause-owes g c who owes = let e = c.in-Ok.field-0 in let is : e.halted ≡ None = cc in
    all_owes _ c.args.demi.now who c.args.tokens.now e.results.items e.halted c.args.caller.now c.wait_all.new.caller c.in-Ok.ensures.of is c.in-Ok.ensures.waited owes
