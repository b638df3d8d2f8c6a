use Rattle.std.proofs.Common.{◌∙◌, ap, refl, subst, sym}
use Rattle.demi_link.specs.Causes.{Caused}
use Rattle.demi_link.specs.Desks.{desk_of}
use Rattle.demi_link.specs.declared.phase.Phase.{Phase}
use Rattle.demi_link.specs.declared.phase.Phase.TheVariants.{Pushing}
use Rattle.demi_link.proofs.Arriving.{arrive, last_of}
use Rattle.demi_link.proofs.Pushes.{pushed_next, pushed_sight, sight_pushed, talk_replied}
use Rattle.demi_link.proofs.desk.Desk.push.Goals as goal

pub returns-in-Ok-clause-fits : goal.returns-in-Ok-clause-fits
returns-in-Ok-clause-fits g c =
    let s = c.args.self.now in
    let d = desk_of s in
    let a = g.C.Calls.sight c.args.cx.now s.link in
    let b = g.C.Calls.sight c.push.new.self s.link in
    let z = g.C.Calls.sight c.sgafree_lent.new.self s.link in
    let o = c.in-Ok.ensures in
    let ports = g.C.Scanner.ports c.args.cx.now in
    let place = o.ok.0 in
    let half = ap (λ x. x.segments) o.half in
    arrive ports _ (sight_pushed a place c.in-Ok.token.token.0 c.args.sga) z (record d { talk = talk_replied d.talk }) c.one_replied.result.value (Pushing c.in-Ok.token c.args.behind) c.waits.result.phase
    (g.met.C.Scanner.goes_ports s.link _ _ (g.met.C.Scanner.goes_on s.link _ _ _ o.goes c.sgafree_lent.ensures.goes))
    (pushed_sight a b z place c.in-Ok.token.token.0 c.args.sga c.in-Ok.half.segments o.ok.1 o.only.0 half c.sgafree_lent.ensures.sight)
    c.one_replied.ensures
    c.waits.ensures.phase
    (pushed_next ports a d c.args.sga c.args.behind place c.in-Ok.token c.requires o.port o.ok.1.above)

pub returns-in-Ok-clause-cause : goal.returns-in-Ok-clause-cause
returns-in-Ok-clause-cause g c = subst (λ (p : Phase). Caused (g.C.Calls.events c.args.cx.now) (g.C.Calls.events c.sgafree_lent.new.self) c.args.self.now.index p) (sym c.waits.ensures.phase)
    (last_of _ _ _ _ (c.sgafree_lent.ensures.events ∙ c.in-Ok.ensures.only.1) refl)
