use Rattle.demi_served.proofs.Sessions.{accounted_served}
use Rattle.demi_served.proofs.ends.an_accounted_session_served.Goals as goal

pub returns : goal.returns
returns c = record { served = accounted_served }
