use Rattle.std.proofs.Common.{◌∷◌}
use Rattle.demi_net.specs.Real.{log_given}
use Rattle.demi_net.proofs.past.Past.log_given.Given as goal

abbrev pub ghost-told : goal.ghost-told
ghost-told a = log_given a._text.now a._bytes ∷ a._past.now.calls
