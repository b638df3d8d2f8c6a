use Rattle.std.proofs.Common.{subst, sym}
use Rattle.demi_pdpix.specs.Kinds.{kind_of}
use Rattle.demi_pdpix.specs.Seen.{IsOf}
use Rattle.demi_context.specs.ContextPorts.{OwesLess}
use Rattle.demi_context.specs.Halting.{Takes}
use Rattle.demi_context.proofs.Halts.{waited_owes, waited_takes}
use Rattle.demi_context.proofs.stopping.redeem.Goals as goal

pub returns-in-Ready : goal.returns-in-Ready
returns-in-Ready g c =
    let d = c.args.demi.now in
    let kind = kind_of d c.args.token.port in
    let b = c.args.caller.now in
    let e = c.in-Ready.ensures in
    record {
      of = subst (IsOf d) (sym c.let_go.ensures) e.of;
      takes = subst (Takes d kind c.args.token.token.0 b) (sym c.let_go.ensures) (waited_takes _ _ d c.args.token b c.wait.new.caller e.of c.in-Ready.field-0 c.in-Ready.out e.waited);
      owes = subst (OwesLess kind 1 b) (sym c.let_go.ensures) (waited_owes _ _ d c.args.token b c.wait.new.caller e.of c.in-Ready.field-0 c.in-Ready.out e.waited);
    }
