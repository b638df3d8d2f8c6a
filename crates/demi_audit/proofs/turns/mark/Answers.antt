use Rattle.std.proofs.Common.{arith}
use Rattle.demi_audit.proofs.Turning.{marked}
use Rattle.demi_audit.proofs.turns.mark.Goals as goal

pub returns-in-Some-clause-marked : goal.returns-in-Some-clause-marked
returns-in-Some-clause-marked c = λ heard before h t.
    let k = c.in-Some.ensures in
    marked c.args.places.now heard before c.args.given.now.items c.args.reply c.in-Some.at h k.there k.place (omega (arith, k.within c.requires.placing.0 c.requires.placing.1, c.requires.placing.2)) t
