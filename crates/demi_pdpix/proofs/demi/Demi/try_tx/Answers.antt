use Rattle.demi_pdpix.proofs.Tried.{tried_tx}
use Rattle.demi_pdpix.proofs.demi.Demi.try_tx.Goals as goal

pub returns-clause-tried : goal.returns-clause-tried
returns-clause-tried g c = tried_tx g.X.Law.admits c.args.self.now.heap c.args.token.0 _ c.args.caller.now c.of_tx.result c.caller.view_is c.args.k c.try_at.new.passes.items c.try_at.result c.of_tx.ensures c.try_at.ensures.tried
