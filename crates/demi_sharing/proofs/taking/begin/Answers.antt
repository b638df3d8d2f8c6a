use Rattle.std.proofs.Common.{Option, is_some, subst, sym}
use Rattle.demi_port_core.specs.declared.place.QToken.{QToken}
use Rattle.demi_sharing.proofs.Dealt.{began_first}
use Rattle.demi_sharing.specs.Acting.{Began}
use Rattle.demi_sharing.specs.Setting.{IsSetOut}
use Rattle.demi_sharing.proofs.taking.begin.Goals as goal

pub returns-in-Some : goal.returns-in-Some
returns-in-Some g c =
    let d = c.args.demi.now in
    let b = c.args.caller.now in
    let e = c.deal_out.new.caller in
    let was = subst (λ (o : Option QToken). IsSetOut d c.args.number o b) c.in-Some.is c.requires in
    subst (λ (o : Option QToken). Began d c.args.number (is_some o) c.args.links e) (sym c.in-Some.is)
    (began_first d c.args.number c.args.links c.in-Some.token b e was c.deal_out.ensures.of c.deal_out.ensures.dealt c.deal_out.ensures.sides c.deal_out.ensures.owes)
