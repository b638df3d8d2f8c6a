use Rattle.std.proofs.Common.{◌∷◌}
use Rattle.demi_net.specs.Real.{links_given}
use Rattle.demi_net.proofs.past.Past.links_given.Given as goal

abbrev pub ghost-told : goal.ghost-told
ghost-told a = links_given a._number ∷ a._past.now.calls
