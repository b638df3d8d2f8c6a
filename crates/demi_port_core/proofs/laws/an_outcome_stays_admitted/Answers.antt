use Rattle.demi_port_core.proofs.Admits.{stays_on, survives}
use Rattle.demi_port_core.proofs.laws.an_outcome_stays_admitted.Goals as goal

pub returns-clause-later : goal.returns-clause-later
returns-clause-later g c b v w p out is low behind = stays_on (g.L.Law.admits b) (g.L.Law.steady b) v w p out is low behind

pub returns-clause-survives : goal.returns-clause-survives
returns-clause-survives g c b v w history p out is low behind starts = survives (g.L.Law.admits b) (g.L.Law.steady b) v w history p out is low behind starts
