use Rattle.demi_served.proofs.ClosedPorts.{port_closed}
use Rattle.demi_served.proofs.ports.a_closed_port_has_its_workers.Goals as goal

pub returns : goal.returns
returns c = record { closed = port_closed }
