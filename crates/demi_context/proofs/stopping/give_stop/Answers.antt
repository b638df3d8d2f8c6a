use Rattle.std.proofs.Common.{refl, subst, sym}
use Rattle.demi_port_core.specs.declared.place.QToken.{QToken}
use Rattle.demi_pdpix.specs.Kinds.{kind_of}
use Rattle.demi_pdpix.specs.Seen.{IsOf}
use Rattle.demi_context.specs.Halting.{HasLooked}
use Rattle.demi_context.proofs.ContextOwing.{submits_owes}
use Rattle.demi_context.proofs.Halting.{gives_after, gives_stop, looked_on, looked_same, refused_looked}
use Rattle.demi_context.proofs.stopping.give_stop.Goals as goal

pub loop-init : goal.loop-init
loop-init g c = record { of = c.requires; looked = looked_same c.args.caller.now c.args.caller.now refl }

pub loop-preserved : goal.loop-preserved
loop-preserved g c =
    let d = c.args.demi.now in
    let looked = refused_looked QToken (kind_of d c.args.port) c.loop.caller c.stop.new.caller _ c.in-Err.ensures.bad c.in-Err.ensures.full in
    record {
      of = subst (IsOf d) (sym c.park.ensures) c.in-Err.ensures.of;
      looked = subst (HasLooked c.args.caller.now) (sym c.park.ensures) (looked_on c.args.caller.now c.loop.caller c.stop.new.caller c.loop.invariant.looked looked);
    }

pub returns-in-Ok : goal.returns-in-Ok
returns-in-Ok g c =
    let d = c.args.demi.now in
    let kind = kind_of d c.args.port in
    let b = c.args.caller.now in
    let e = c.stop.new.caller in
    let token = c.in-Ok.token in
    let submits = c.in-Ok.ensures.ok.1 in
    record {
      of = c.in-Ok.ensures.of;
      port = c.in-Ok.ensures.ok.0;
      gives = gives_after d kind token.token.0 b c.loop.caller e c.loop.invariant.looked (gives_stop d kind token.token.0 c.loop.caller e c.loop.invariant.of submits);
      owes = λ n f due. submits_owes kind _ token.token.0 c.loop.caller e submits n f (c.loop.invariant.looked.owes n f due);
    }
