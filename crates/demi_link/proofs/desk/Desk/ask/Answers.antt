use Rattle.std.proofs.Common.{◌+◌, ℕ, ◌∙◌, ap, length, refl}
use Rattle.demi_link.specs.Desks.{desk_of}
use Rattle.demi_link.specs.declared.phase.Phase.TheVariants.{Waiting}
use Rattle.demi_link.proofs.Arriving.{arrive, caused_by}
use Rattle.demi_link.proofs.Asks.{asked_next, asked_sight, desk_drawn, sight_asked}
use Rattle.demi_served.specs.Steps.{after_drawn}
use Rattle.demi_link.proofs.desk.Desk.ask.Goals as goal

pub returns-in-Ok-clause-fits : goal.returns-in-Ok-clause-fits
returns-in-Ok-clause-fits g c =
    let s = c.args.self.now in
    let d = desk_of s in
    let a = g.C.Calls.sight c.args.cx.now s.link in
    let b = g.C.Calls.sight c.ask.new.self s.link in
    let o = c.in-Ok.ensures in
    let ports = g.C.Scanner.ports c.args.cx.now in
    let token = c.in-Ok.token in
    arrive ports _ (sight_asked a d c.args.op o.ok.0 token.token.0) b (desk_drawn d (record d.talk { kept = after_drawn d.talk.kept d.talk.request })) c.one_drawn.result.value (Waiting token (length a.draws + 1) c.args.half) c.waits.result.phase
    (g.met.C.Scanner.goes_ports s.link _ _ o.goes)
    (asked_sight a b d c.args.op o.ok.0 token.token.0 c.in-Ok.sequence o.number.0 o.ok.1 o.only.0)
    c.one_drawn.ensures
    (c.waits.ensures.phase ∙ ap (λ (n : ℕ). Waiting token n c.args.half) o.number.0)
    (asked_next ports a d c.args.half c.args.op o.ok.0 token c.requires o.port)

pub returns-in-Ok-clause-cause : goal.returns-in-Ok-clause-cause
returns-in-Ok-clause-cause g c = caused_by _ _ _ (Waiting c.in-Ok.token c.in-Ok.sequence c.args.half) _ _ c.waits.ensures.phase c.in-Ok.ensures.only.1 refl
