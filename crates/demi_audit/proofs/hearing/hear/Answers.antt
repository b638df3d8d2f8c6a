use Rattle.std.proofs.Common.{List, subst, sym, ◌+◌, take}
use Rattle.demi_audit.specs.declared.hearing.LinkHeard.{LinkHeard}
use Rattle.demi_audit.proofs.Hearings.{HeardLinks, link_more, no_places}
use Rattle.demi_audit.proofs.hearing.hear.Goals as goal

pub links-preserved : goal.links-preserved
links-preserved c =
    let k = c.in_ok-link.ensures in
    let one = link_more c.args.text.now c.args.places.now c.links.place-index no_places c.links.heard.items k.0 c.hear_link.new.heard.items c.links.links.items c.in_ok-link.link
    c.links-test.true c.links.invariant k.1 k.2 in
    subst (λ (l : List LinkHeard). HeardLinks c.args.text.now (take (c.links.place-index + 1) c.args.places.now) c.hear_link.new.heard.items l) (sym c.in_ok-push.ensures.items) one
