use Rattle.demi_link.proofs.Ended.{none_due, none_out}
use Rattle.demi_link.proofs.laws.an_ended_link_owes_nothing.Goals as goal

pub returns-clause-halves : goal.returns-clause-halves
returns-clause-halves c = none_out

pub returns-clause-tokens : goal.returns-clause-tokens
returns-clause-tokens c = none_due
