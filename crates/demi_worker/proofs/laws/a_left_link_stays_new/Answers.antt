use Rattle.demi_worker.proofs.Leaving.{new_beside}
use Rattle.demi_worker.proofs.laws.a_left_link_stays_new.Goals as goal

pub returns : goal.returns
returns c = new_beside
