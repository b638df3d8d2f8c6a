use Rattle.demi_served.proofs.LinkEnds.{rx_end, rx_took}
use Rattle.demi_served.proofs.links.a_receiving_port_ends.Goals as goal

pub returns-clause-ends : goal.returns-clause-ends
returns-clause-ends g c = rx_end g.S.Source.taken g.S.Source.left g.S.Source.faults g.S.Source.reads

pub returns-clause-took : goal.returns-clause-took
returns-clause-took g c = rx_took g.S.Source.taken g.S.Source.left g.S.Source.faults g.S.Source.reads
