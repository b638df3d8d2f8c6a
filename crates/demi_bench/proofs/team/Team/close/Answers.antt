use Rattle.demi_bench.proofs.Links.{idle_still}
use Rattle.demi_bench.proofs.team.Team.close.Goals as goal

pub close_links-requires-clause-lines : goal.close_links-requires-clause-lines
close_links-requires-clause-lines c = let is = c.self.invariant in idle_still c.self.inside.duty.requests c.self.inside.wires.items c.self.inside.lines.items is.1 is.2
