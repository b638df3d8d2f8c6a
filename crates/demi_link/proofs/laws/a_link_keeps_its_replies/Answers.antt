use Rattle.demi_link.proofs.laws.a_link_keeps_its_replies.Goals as goal

pub returns-clause-own : goal.returns-clause-own
returns-clause-own c = λ ports s d phase f. f.keeps.own

pub returns-clause-kept : goal.returns-clause-kept
returns-clause-kept c = λ ports s d phase f. f.keeps.kept

pub returns-clause-fits : goal.returns-clause-fits
returns-clause-fits c = λ ports s d phase f. f.keeps.fits

pub returns-clause-pushed : goal.returns-clause-pushed
returns-clause-pushed c = λ ports s d phase f. f.keeps.writes.texts
