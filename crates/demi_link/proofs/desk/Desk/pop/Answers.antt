use Rattle.std.proofs.Common.{refl}
use Rattle.demi_link.specs.Desks.{desk_of}
use Rattle.demi_link.specs.declared.phase.Phase.TheVariants.{Popping}
use Rattle.demi_link.proofs.Arriving.{arrive, caused_by}
use Rattle.demi_link.proofs.Taken.{popped_next, popped_sight, sight_popped}
use Rattle.demi_link.proofs.desk.Desk.pop.Goals as goal

pub returns-in-Ok-clause-fits : goal.returns-in-Ok-clause-fits
returns-in-Ok-clause-fits g c =
    let s = c.args.self.now in
    let d = desk_of s in
    let a = g.C.Calls.sight c.args.cx.now s.link in
    let b = g.C.Calls.sight c.pop.new.self s.link in
    let o = c.in-Ok.ensures in
    let ports = g.C.Scanner.ports c.args.cx.now in
    arrive ports _ (sight_popped a o.ok.0 c.in-Ok.token.token.0) b d d.talk (Popping c.in-Ok.token) c.waits.result.phase
    (g.met.C.Scanner.goes_ports s.link _ _ o.goes)
    (popped_sight a b o.ok.0 c.in-Ok.token.token.0 o.ok.1 o.only.0)
    refl
    c.waits.ensures.phase
    (popped_next ports a d o.ok.0 c.in-Ok.token c.requires o.port o.ok.1.above)

pub returns-in-Ok-clause-cause : goal.returns-in-Ok-clause-cause
returns-in-Ok-clause-cause g c = caused_by _ _ c.args.self.now.index (Popping c.in-Ok.token) _ _ c.waits.ensures.phase c.in-Ok.ensures.only.1 refl
