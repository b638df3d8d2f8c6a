use Rattle.std.proofs.Common.{refl, subst, sym}
use Rattle.demi_sharing.specs.Acting.{AreLinks}
use Rattle.demi_sharing.proofs.Links.{links_more}
use Rattle.demi_sharing.proofs.taking.note.Goals as goal

pub returns-clause-links : goal.returns-clause-links
returns-clause-links g c =
    let next = c.if-not-is_next.ensures refl in
    subst (AreLinks c.args.links) (sym c.push.ensures.items) (links_more c.args.links c.args.numbers.now.items c.args.number c.requires.links next.0 next.1 next.2)
