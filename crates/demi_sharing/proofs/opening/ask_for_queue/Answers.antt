use Rattle.std.proofs.Common.{refl, subst, sym}
use Rattle.demi_context.proofs.Halting.{looked_on, looked_same, none_looked}
use Rattle.demi_context.specs.Halting.{HasLooked}
use Rattle.demi_pdpix.specs.Seen.{IsOf}
use Rattle.demi_pdpix.specs.declared.kind.PortKind.TheVariants.{Memory}
use Rattle.demi_sharing.proofs.Setting.{set_out}
use Rattle.demi_sharing.proofs.opening.ask_for_queue.Goals as goal

pub loop-init : goal.loop-init
loop-init g c = record { of = c.requires; looked = looked_same c.args.caller.now c.args.caller.now refl }

pub loop-preserved : goal.loop-preserved
loop-preserved g c =
    let d = c.args.demi.now in
    let looked = none_looked Memory c.loop.caller c.queue.new.caller c.in-Err.ensures.full in
    record {
      of = subst (IsOf d) (sym c.park.ensures) c.in-Err.ensures.of;
      looked = subst (HasLooked c.args.caller.now) (sym c.park.ensures) (looked_on c.args.caller.now c.loop.caller c.queue.new.caller c.loop.invariant.looked looked);
    }

pub returns-in-Ok : goal.returns-in-Ok
returns-in-Ok g c = record {
  of = c.in-Ok.ensures.of;
  asked = λ n was. set_out c.args.demi.now n c.in-Ok.token c.args.caller.now c.loop.caller c.queue.new.caller c.loop.invariant.looked c.in-Ok.ensures.ok.0 c.in-Ok.ensures.ok.1 c.in-Ok.ensures.of was;
}
