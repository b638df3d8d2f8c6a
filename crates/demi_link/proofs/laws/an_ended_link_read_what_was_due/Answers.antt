use Rattle.demi_link.proofs.laws.an_ended_link_read_what_was_due.Goals as goal

pub returns-clause-each : goal.returns-clause-each
returns-clause-each c = λ ports s d x f before after o e. f.keeps.due before after o e

pub returns-clause-next : goal.returns-clause-next
returns-clause-next c = λ ports s d token f. f.agrees.9
