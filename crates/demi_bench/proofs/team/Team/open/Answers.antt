use Rattle.demi_bench.proofs.Links.{idle_still}
use Rattle.demi_bench.proofs.team.Team.open.Goals as goal

pub close_links-requires-clause-lines : goal.close_links-requires-clause-lines
close_links-requires-clause-lines c = let a = c.add_links.ensures in idle_still 0 c.add_links.new.wires.items c.add_links.new.lines.items (a.lines 0) a.idle

pub invariant_of-result : goal.invariant_of-result
invariant_of-result c = let a = c.add_links.ensures in (c.requires, a.lines c.args.duty.requests, a.idle, a.pairs)
