use Rattle.std.proofs.Common.{refl, subst, sym}
use Rattle.demi_pdpix.specs.Seen.{IsOf}
use Rattle.demi_pdpix.specs.declared.kind.PortKind.TheVariants.{Service}
use Rattle.demi_context.specs.Halting.{HasLooked}
use Rattle.demi_closed.specs.OnlyLink.{store_stop}
use Rattle.demi_context.proofs.ContextOwing.{asks_owes}
use Rattle.demi_context.proofs.Halting.{gives_after, gives_store_stop, looked_on, looked_same, none_looked}
use Rattle.demi_context.proofs.stopping.give_store_stop.Goals as goal

pub loop-init : goal.loop-init
loop-init g c = record { of = c.requires; looked = looked_same c.args.caller.now c.args.caller.now refl }

pub loop-preserved : goal.loop-preserved
loop-preserved g c =
    let d = c.args.demi.now in
    record {
      of = subst (IsOf d) (sym c.park.ensures) c.in-Err.ensures.of;
      looked = subst (HasLooked c.args.caller.now) (sym c.park.ensures) (looked_on c.args.caller.now c.loop.caller c.ask.new.caller c.loop.invariant.looked (none_looked Service c.loop.caller c.ask.new.caller c.in-Err.ensures.full.1));
    }

pub returns-in-Ok : goal.returns-in-Ok
returns-in-Ok g c =
    let d = c.args.demi.now in
    let b = c.args.caller.now in
    let m = c.loop.caller in
    let e = c.ask.new.caller in
    let ok = c.in-Ok.ensures.ok in
    record {
      of = c.in-Ok.ensures.of;
      port = ok.0;
      gives = gives_after d Service c.in-Ok.token.token.0 b m e c.loop.invariant.looked (gives_store_stop d _ c.in-Ok.token.token.0 m e ok.1 ok.2);
      owes = λ n f due. asks_owes _ c.in-Ok.token.token.0 store_stop m e ok.1 ok.2 n f (c.loop.invariant.looked.owes n f due);
    }
