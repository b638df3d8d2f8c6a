use Rattle.std.proofs.Common.{[], ◌∷◌, ◌++◌}
use Rattle.demi_memq.specs.Said.{op_said}
use Rattle.demi_memq.proofs.heard.heard.Given as goal

abbrev pub ghost-from : goal.ghost-from
ghost-from a = a._first.now.value ++ op_said a._second.now ∷ []
