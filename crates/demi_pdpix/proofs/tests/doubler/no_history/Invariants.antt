use Rattle.std.proofs.Common.{[]}
use Rattle.demi_pdpix.proofs.tests.doubler.no_history.Given as goal

abbrev pub ghost-from : goal.ghost-from
ghost-from a = []
