use Rattle.demi_link.proofs.laws.an_ended_link_heard_why.Goals as goal

pub returns-clause-clean : goal.returns-clause-clean
returns-clause-clean c = λ ports s d f. (f.agrees.7, f.agrees.4)

pub returns-clause-bye : goal.returns-clause-bye
returns-clause-bye c = λ ports s d f. f.agrees.4

pub returns-clause-refused : goal.returns-clause-refused
returns-clause-refused c = λ ports code s d f. (f.agrees.5, f.agrees.4)

pub returns-clause-read : goal.returns-clause-read
returns-clause-read c = λ ports s d f. f.agrees.6

pub returns-clause-write : goal.returns-clause-write
returns-clause-write c = λ ports s d f. f.agrees.1

pub returns-clause-log : goal.returns-clause-log
returns-clause-log c = λ ports s d f. (f.agrees.3, f.agrees.6)

pub returns-clause-memory : goal.returns-clause-memory
returns-clause-memory c = λ ports s d f. (f.agrees.3, f.agrees.6)
