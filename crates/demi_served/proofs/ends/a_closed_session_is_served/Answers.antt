use Rattle.demi_served.proofs.Sessions.{served}
use Rattle.demi_served.proofs.ends.a_closed_session_is_served.Goals as goal

pub returns : goal.returns
returns c = record { served = served }
