use Rattle.std.proofs.Common.{[], ◌∷◌, ◌++◌}
use Rattle.demi_memq.proofs.chains.came.Given as goal

abbrev pub ghost-from : goal.ghost-from
ghost-from g a = a._first.now.value ++ (a._second.now.0.now, a._second.now.1.now) ∷ []
