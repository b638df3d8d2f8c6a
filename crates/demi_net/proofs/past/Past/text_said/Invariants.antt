use Rattle.std.proofs.Common.{◌∷◌}
use Rattle.demi_net.specs.Real.{text_said}
use Rattle.demi_net.proofs.past.Past.text_said.Given as goal

abbrev pub ghost-told : goal.ghost-told
ghost-told a = text_said a._text.now ∷ a._past.now.calls
