use Rattle.std.proofs.Common.{ap, subst}
use Rattle.demi_pdpix.specs.Kinds.{kind_of}
use Rattle.demi_pdpix.specs.declared.kind.PortKind.{PortKind}
use Rattle.demi_context.specs.ContextPorts.{OwesLess}
use Rattle.demi_context.specs.Halting.{Takes}
use Rattle.demi_context.proofs.Halts.{halts_of, owes_round}
use Rattle.demi_context.proofs.stopping.halt.Goals as goal

pub returns : goal.returns
returns g c =
    let d = c.args.demi.now in
    let kind = kind_of d c.args.port in
    let b = c.args.caller.now in
    let m = c.give_stop-token.new.caller in
    let e = c.redeem.new.caller in
    let token = c.give_stop-token.result in
    let at = ap (kind_of d) c.give_stop-token.ensures.port in
    record {
      of = c.redeem.ensures.of;
      halts = halts_of d kind token.token.0 b m e c.give_stop-token.ensures.gives (subst (λ (k : PortKind). Takes d k token.token.0 m e) at c.redeem.ensures.takes);
      owes = owes_round kind b m e c.give_stop-token.ensures.owes (subst (λ (k : PortKind). OwesLess k 1 m e) at c.redeem.ensures.owes);
    }
