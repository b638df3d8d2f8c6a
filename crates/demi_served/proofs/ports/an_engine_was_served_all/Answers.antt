use Rattle.std.specs.Prelude.{length}
use Rattle.demi_port_core.specs.History.{ground_of}
use Rattle.demi_served.proofs.ClosedPorts.{served_all}
use Rattle.demi_served.proofs.ports.an_engine_was_served_all.Goals as goal

pub returns : goal.returns
returns g c = record { all = λ history fetched served begins grounded counted over. served_all history (ground_of fetched) served (length fetched) begins grounded counted over }
