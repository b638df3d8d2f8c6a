use Rattle.std.proofs.Common.{refl, subst, sym}
use Rattle.demi_memq.specs.declared.op.MemOp.TheVariants.{Push}
use Rattle.demi_pdpix.specs.Seen.{IsOf}
use Rattle.demi_context.specs.Halting.{HasLooked}
use Rattle.demi_context.proofs.Halting.{looked_on, looked_same}
use Rattle.demi_sharing.proofs.Acts.{gave_after}
use Rattle.demi_sharing.proofs.dealing.give_push.Goals as goal

pub loop-init : goal.loop-init
loop-init g c = record { of = c.requires; looked = looked_same c.args.caller.now c.args.caller.now refl }

pub loop-preserved : goal.loop-preserved
loop-preserved g c =
    let d = c.args.demi.now in
    record {
      of = subst (IsOf d) (sym c.park.ensures) c.in-None-try_push.ensures.of;
      looked = subst (HasLooked c.args.caller.now) (sym c.park.ensures) (looked_on c.args.caller.now c.loop.caller c.try_push.new.caller c.loop.invariant.looked c.in-None-try_push.ensures.none);
    }

pub returns-in-Some-try_push : goal.returns-in-Some-try_push
returns-in-Some-try_push g c =
    let some = c.in-Some-try_push.ensures.some in
    record {
      of = c.in-Some-try_push.ensures.of;
      port = some.0;
      gave = (some.1.0, some.1.1, gave_after (Push 0 some.1.0) c.in-Some-try_push.token.token.0 c.args.caller.now c.loop.caller c.try_push.new.caller c.loop.invariant.looked some.1.2);
    }
