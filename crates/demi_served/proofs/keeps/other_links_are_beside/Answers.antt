use Rattle.demi_served.proofs.Beside.{beside_none, beside_on, beside_drawn, beside_asked, beside_handed}
use Rattle.demi_served.proofs.keeps.other_links_are_beside.Goals as goal

pub returns-clause-none : goal.returns-clause-none
returns-clause-none c = beside_none

pub returns-clause-on : goal.returns-clause-on
returns-clause-on c = beside_on

pub returns-clause-drawn : goal.returns-clause-drawn
returns-clause-drawn c = beside_drawn

pub returns-clause-asked : goal.returns-clause-asked
returns-clause-asked c = beside_asked

pub returns-clause-handed : goal.returns-clause-handed
returns-clause-handed c = beside_handed
