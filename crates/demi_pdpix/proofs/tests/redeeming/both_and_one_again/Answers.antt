use Rattle.std.proofs.Common.{◌≡◌}
use Rattle.std.specs.Prelude.{Some}
use Rattle.demi_pdpix.specs.declared.all.Halted.TheVariants.{Spent}
use Rattle.demi_pdpix.proofs.OneCaller.{halted_at_two}
use Rattle.demi_pdpix.proofs.tests.redeeming.both_and_one_again.Goals as goal

pub returns : goal.returns
returns g c = let e = c.in-Ok.field-0 in let is : e.halted ≡ Some (Spent 2) = cc in
    halted_at_two _ c.args.demi.now c.args.one c.args.other e.results.items e.halted c.args.caller.now c.wait_all.new.caller c.in-Ok.ensures.of is c.in-Ok.ensures.waited c.requires
