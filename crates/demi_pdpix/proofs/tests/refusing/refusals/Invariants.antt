use Rattle.std.proofs.Common.{◌≡◌}
use Rattle.demi_pdpix.proofs.tests.refusing.refusals.Given as goal

abbrev pub invariant-loop-call : goal.invariant-loop-call
invariant-loop-call g l = l.caller ≡ l.initial.caller
