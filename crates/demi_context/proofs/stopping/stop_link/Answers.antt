use Rattle.std.proofs.Common.{◌<◌, arith, length, subst}
use Rattle.demi_pdpix.specs.declared.kind.PortKind.{PortKind}
use Rattle.demi_context.specs.Halting.{HaltsAt}
use Rattle.demi_context.proofs.ContextKinds.{kind_rx, kind_tx}
use Rattle.demi_context.proofs.Halts.{link_halts}
use Rattle.demi_context.proofs.stopping.stop_link.Goals as goal

pub returns : goal.returns
returns g c =
    let d = c.args.demi.now in
    let link = c.args.link in
    let b = c.args.caller.now in
    let m = c.halt.new.caller in
    let e = c.halt-2.new.caller in
    let rx-low : link < length d.rx = (let n = c.requires.count.0 in let h = c.if-link-links.false in omega (arith, n, h)) in
    let tx-low : link < length d.tx = (let n = c.requires.count.1 in let h = c.if-link-links.false in omega (arith, n, h)) in
    record {
      of = c.halt-2.ensures.of;
      halts = link_halts d link b m e rx-low tx-low (subst (λ (k : PortKind). HaltsAt d k b m) (kind_rx d c.receiving.result link c.receiving.ensures rx-low) c.halt.ensures.halts)
          (subst (λ (k : PortKind). HaltsAt d k m e) (kind_tx d c.sending.result link c.sending.ensures tx-low) c.halt-2.ensures.halts);
      owes = λ n f due. c.halt-2.ensures.owes n f (c.halt.ensures.owes n f due);
    }
