use Rattle.std.proofs.Common.{refl}
use Rattle.demi_link.specs.declared.phase.Cause.TheVariants as cause
use Rattle.demi_link.specs.declared.phase.Phase.TheVariants.{Over, Pushing}
use Rattle.demi_link.proofs.Arriving.{caused_by}
use Rattle.demi_link.proofs.desk.Desk.sent.Goals as goal

pub returns-in-NotYet-clause-cause : goal.returns-in-NotYet-clause-cause
returns-in-NotYet-clause-cause g c = caused_by _ _ c.args.self.now.index (Pushing c.args.token c.args.behind) _ _ c.waits.ensures.phase c.in-NotYet.ensures.events refl

pub returns-in-Spent-clause-cause : goal.returns-in-Spent-clause-cause
returns-in-Spent-clause-cause g c = caused_by _ _ c.args.self.now.index (Over cause.Lost) _ _ c.ends.ensures.phase c.in-Spent.ensures.events tt

pub returns-in-Unknown-clause-cause : goal.returns-in-Unknown-clause-cause
returns-in-Unknown-clause-cause g c = caused_by _ _ c.args.self.now.index (Over cause.Lost) _ _ c.ends-in-Unknown.ensures.phase c.in-Unknown.ensures.events tt
