use Rattle.demi_served.proofs.Stepping.{first_link, link_beside, link_drawn, link_asked, link_handed, link_replied, link_answered, link_waits, link_holds_draw, link_holds_ask}
use Rattle.demi_served.proofs.keeps.a_link_keeps.Goals as goal

pub returns-clause-first : goal.returns-clause-first
returns-clause-first c = first_link

pub returns-clause-beside : goal.returns-clause-beside
returns-clause-beside c = link_beside

pub returns-clause-drawn : goal.returns-clause-drawn
returns-clause-drawn c = link_drawn

pub returns-clause-asked : goal.returns-clause-asked
returns-clause-asked c = link_asked

pub returns-clause-handed : goal.returns-clause-handed
returns-clause-handed c = link_handed

pub returns-clause-answered : goal.returns-clause-answered
returns-clause-answered c = link_answered

pub returns-clause-waits : goal.returns-clause-waits
returns-clause-waits c = link_waits

pub returns-clause-holds_draw : goal.returns-clause-holds_draw
returns-clause-holds_draw c = link_holds_draw

pub returns-clause-holds_ask : goal.returns-clause-holds_ask
returns-clause-holds_ask c = link_holds_ask

pub returns-clause-replied : goal.returns-clause-replied
returns-clause-replied c = link_replied
