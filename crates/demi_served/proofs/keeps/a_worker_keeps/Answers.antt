use Rattle.demi_served.proofs.Stepping.{first_worker, worker_drawn, worker_asked, worker_handed, worker_stopped}
use Rattle.demi_served.proofs.keeps.a_worker_keeps.Goals as goal

pub returns-clause-first : goal.returns-clause-first
returns-clause-first c = first_worker

pub returns-clause-drawn : goal.returns-clause-drawn
returns-clause-drawn c = worker_drawn

pub returns-clause-asked : goal.returns-clause-asked
returns-clause-asked c = worker_asked

pub returns-clause-handed : goal.returns-clause-handed
returns-clause-handed c = worker_handed

pub returns-clause-stopped : goal.returns-clause-stopped
returns-clause-stopped c = worker_stopped
