use Rattle.demi_served.proofs.Steady.{steady}
use Rattle.demi_served.proofs.keeps.what_was_said_stays.Goals as goal

pub returns : goal.returns
returns c = record { steady = steady }
