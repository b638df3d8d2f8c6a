use Rattle.demi_link.proofs.Ended.{wrote_all, wrote_before}
use Rattle.demi_link.proofs.laws.an_ended_link_wrote.Goals as goal

pub returns-clause-before : goal.returns-clause-before
returns-clause-before c = λ ports s d x end f known behind own. wrote_before ports s d end behind own x f known

pub returns-clause-all : goal.returns-clause-all
returns-clause-all c = λ ports s d x end f done behind own. wrote_all ports s d end behind own x f done
