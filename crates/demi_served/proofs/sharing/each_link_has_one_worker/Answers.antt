use Rattle.demi_served.proofs.Gets.{some_worker, one_worker, a_link}
use Rattle.demi_served.proofs.sharing.each_link_has_one_worker.Goals as goal

pub returns-clause-some : goal.returns-clause-some
returns-clause-some c = some_worker

pub returns-clause-one : goal.returns-clause-one
returns-clause-one c = one_worker

pub returns-clause-a_link : goal.returns-clause-a_link
returns-clause-a_link c = a_link
