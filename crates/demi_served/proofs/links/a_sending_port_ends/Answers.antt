use Rattle.demi_served.proofs.LinkEnds.{tx_end, tx_wrote}
use Rattle.demi_served.proofs.links.a_sending_port_ends.Goals as goal

pub returns-clause-ends : goal.returns-clause-ends
returns-clause-ends g c = tx_end g.S.Sink.written g.S.Sink.faults

pub returns-clause-wrote : goal.returns-clause-wrote
returns-clause-wrote g c = tx_wrote g.S.Sink.written g.S.Sink.faults
