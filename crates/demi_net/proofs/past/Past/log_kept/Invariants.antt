use Rattle.std.proofs.Common.{◌∷◌}
use Rattle.demi_net.specs.Real.{log_kept}
use Rattle.demi_net.proofs.past.Past.log_kept.Given as goal

abbrev pub ghost-told : goal.ghost-told
ghost-told a = log_kept a._text.now a._bytes a._faults ∷ a._past.now.calls
