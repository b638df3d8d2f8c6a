use Rattle.demi_worker.proofs.Served.{served_keeps, served_owes, served_worker}
use Rattle.demi_worker.proofs.laws.a_served_link_keeps_its_replies.Goals as goal

pub returns-clause-own : goal.returns-clause-own
returns-clause-own c = λ ports link cause did had s v l. (served_keeps ports link cause did had v s l).own

pub returns-clause-kept : goal.returns-clause-kept
returns-clause-kept c = λ ports link cause did had s v l. served_keeps ports link cause did had v s l

pub returns-clause-worker : goal.returns-clause-worker
returns-clause-worker c = λ ports link cause did had s v l. served_worker ports link cause did had v s l

pub returns-clause-owes : goal.returns-clause-owes
returns-clause-owes c = λ ports link cause did had s v l known. served_owes ports link cause did had v s l known
