use Rattle.demi_served.proofs.Sessions.{whole_served}
use Rattle.demi_served.proofs.ends.a_whole_session_served.Goals as goal

pub returns : goal.returns
returns c = record { served = whole_served }
