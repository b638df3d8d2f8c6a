use Rattle.demi_link.proofs.Ended.{fresh_fits}
use Rattle.demi_link.proofs.laws.a_new_link_fits.Goals as goal

pub returns : goal.returns
returns c = fresh_fits
