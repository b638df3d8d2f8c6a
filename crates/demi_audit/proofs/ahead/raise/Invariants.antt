use Rattle.demi_audit.proofs.Raising.{Raised}
use Rattle.demi_audit.proofs.ahead.raise.Given as goal

abbrev pub invariant-raising : goal.invariant-raising
invariant-raising l = Raised l.fn.table l.table l.from l.k l.most
