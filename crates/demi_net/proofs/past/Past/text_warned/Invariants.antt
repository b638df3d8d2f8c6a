use Rattle.std.proofs.Common.{◌∷◌}
use Rattle.demi_net.specs.Real.{text_warned}
use Rattle.demi_net.proofs.past.Past.text_warned.Given as goal

abbrev pub ghost-told : goal.ghost-told
ghost-told a = text_warned a._text.now ∷ a._past.now.calls
