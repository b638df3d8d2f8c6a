use Rattle.demi_served.proofs.Endings.{asked_ended, asked_settled}
use Rattle.demi_served.proofs.links.a_text_that_ended_asks_on.Goals as goal

pub returns-clause-ended : goal.returns-clause-ended
returns-clause-ended c = asked_ended

pub returns-clause-settled : goal.returns-clause-settled
returns-clause-settled c = asked_settled
