use Rattle.std.proofs.Common.{ap}
use Rattle.demi_pdpix.specs.Seen.{as_list}
use Rattle.demi_pdpix.proofs.Ended.{ready_only}
use Rattle.demi_pdpix.proofs.closing.close_journal.Goals as goal

pub close_one-requires-clause-ready : goal.close_one-requires-clause-ready
close_one-requires-clause-ready g c κs within = ready_only c.args.lanes.items c.pop.new.self.items c.in-Some-pop.lane (as_list c.args.seat) c.in-Some.pair c.requires.ready (ap as_list c.in-Some.is) c.requires.len c.in-Some-pop.ensures.items
