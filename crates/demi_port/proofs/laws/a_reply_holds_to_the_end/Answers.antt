use Rattle.std.proofs.Common.{[], sym, ◌∙◌, append-nil}
use Rattle.demi_port_core.proofs.Admits.{stays_on, survives}
use Rattle.demi_port.specs.Seen.{known_at, known_by, says}
use Rattle.demi_port.proofs.laws.a_reply_holds_to_the_end.Goals as goal

pub returns-clause-later : goal.returns-clause-later
returns-clause-later g c b old new p out is low behind = stays_on (g.L.Law.admits b) (g.L.Law.steady b) (known_by old) (known_by new) p out is low behind

pub returns-clause-closed : goal.returns-clause-closed
returns-clause-closed g c e pass p out is low behind heard =
    survives (g.L.Law.admits e.base) (g.L.Law.steady e.base) (known_by pass) (known_at e) (says e.history) p out is low behind ([], sym heard ∙ sym (append-nil e.heard))
