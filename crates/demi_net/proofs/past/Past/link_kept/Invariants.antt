use Rattle.std.proofs.Common.{◌∷◌}
use Rattle.demi_net.specs.Real.{link_kept}
use Rattle.demi_net.proofs.past.Past.link_kept.Given as goal

abbrev pub ghost-told : goal.ghost-told
ghost-told a = link_kept a._number a._bytes a._faults a._more_faults ∷ a._past.now.calls
