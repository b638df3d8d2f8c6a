use Rattle.demi_served.proofs.Outcomes.{outcome_said}
use Rattle.demi_served.proofs.ports.an_outcome_is_replied.Goals as goal

pub returns : goal.returns
returns c = record { said = outcome_said }
