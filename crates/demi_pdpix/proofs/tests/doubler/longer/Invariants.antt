use Rattle.std.proofs.Common.{[], ◌∷◌, ◌++◌}
use Rattle.demi_pdpix.proofs.tests.doubler.longer.Given as goal

abbrev pub ghost-from : goal.ghost-from
ghost-from a = a._first.now.value ++ a._second.now ∷ []
