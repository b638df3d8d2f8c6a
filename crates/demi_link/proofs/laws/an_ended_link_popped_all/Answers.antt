use Rattle.demi_link.proofs.Ended.{popped_all}
use Rattle.demi_link.proofs.laws.an_ended_link_popped_all.Goals as goal

pub returns : goal.returns
returns c = popped_all
