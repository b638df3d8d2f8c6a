use Rattle.std.proofs.Common.{refl, subst, sym}
use Rattle.demi_port_core.specs.declared.place.QToken.{QToken}
use Rattle.demi_memq.specs.declared.op.MemOp.TheVariants.{Pop}
use Rattle.demi_pdpix.specs.Seen.{IsOf}
use Rattle.demi_pdpix.specs.declared.kind.PortKind.TheVariants.{Memory}
use Rattle.demi_context.specs.Halting.{HasLooked}
use Rattle.demi_context.proofs.Halting.{looked_on, looked_same, refused_looked}
use Rattle.demi_sharing.proofs.Acts.{gave_after, gave_of}
use Rattle.demi_sharing.proofs.taking.give_pop.Goals as goal

pub loop-init : goal.loop-init
loop-init g c = record { of = c.requires; looked = looked_same c.args.caller.now c.args.caller.now refl }

pub loop-preserved : goal.loop-preserved
loop-preserved g c =
    let d = c.args.demi.now in
    let looked = refused_looked QToken Memory c.loop.caller c.pop.new.caller _ c.in-Err.ensures.bad c.in-Err.ensures.full in
    record {
      of = subst (IsOf d) (sym c.park.ensures) c.in-Err.ensures.of;
      looked = subst (HasLooked c.args.caller.now) (sym c.park.ensures) (looked_on c.args.caller.now c.loop.caller c.pop.new.caller c.loop.invariant.looked looked);
    }

pub returns-in-Ok : goal.returns-in-Ok
returns-in-Ok g c =
    let token = c.in-Ok.token in
    record {
      of = c.in-Ok.ensures.of;
      port = c.in-Ok.ensures.ok.0;
      gave = gave_after (Pop 0) token.token.0 c.args.caller.now c.loop.caller c.pop.new.caller c.loop.invariant.looked (gave_of (Pop 0) token.token.0 c.loop.caller c.pop.new.caller c.in-Ok.ensures.ok.1);
    }
