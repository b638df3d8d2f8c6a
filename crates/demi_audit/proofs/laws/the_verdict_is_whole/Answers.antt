use Rattle.demi_audit.proofs.Audit.{yes_is_whole}
use Rattle.demi_audit.proofs.Complete.{whole_is_yes}
use Rattle.demi_audit.proofs.laws.the_verdict_is_whole.Goals as goal

pub returns : goal.returns
returns c = λ run heard h. (yes_is_whole run heard h, whole_is_yes run heard h)
