use Rattle.demi_served.proofs.Closes.{accounted}
use Rattle.demi_served.proofs.Sessions.{all_accounted}
use Rattle.demi_served.proofs.ends.a_closed_session_is_accounted.Goals as goal

pub returns-clause-accounted : goal.returns-clause-accounted
returns-clause-accounted c = accounted

pub returns-clause-all : goal.returns-clause-all
returns-clause-all c = all_accounted
