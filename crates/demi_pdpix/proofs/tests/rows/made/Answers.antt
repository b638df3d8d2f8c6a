use Rattle.demi_pdpix.proofs.OneCaller.{new_alone}
use Rattle.demi_pdpix.proofs.tests.rows.made.Goals as goal

pub returns-clause-callers : goal.returns-clause-callers
returns-clause-callers g c = let new = c.in-Ok.ensures.callers in (new.0, new_alone c.in-Ok.made.0 c.in-Ok.made.1.items new.1 new.2)
