use Rattle.std.proofs.Common.{Some}
use Rattle.demi_store.proofs.Keys.{updated}
use Rattle.demi_store.proofs.index.Index.set.Goals as goal

pub returns : goal.returns
returns c = updated c.args.key.items c.args.self.now.entries c.insert.new.self (Some c.args.entry) c.in-Ok.ensures.updates
