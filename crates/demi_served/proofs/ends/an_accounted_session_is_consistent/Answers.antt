use Rattle.demi_served.proofs.Serves.{consistent, recorded}
use Rattle.demi_served.proofs.ends.an_accounted_session_is_consistent.Goals as goal

pub returns-clause-consistent : goal.returns-clause-consistent
returns-clause-consistent c = λ b history trail run talks told acc. consistent b history trail run talks acc told

pub returns-clause-recorded : goal.returns-clause-recorded
returns-clause-recorded c = recorded
