use Rattle.std.proofs.Common.{refl}
use Rattle.demi_memq.specs.declared.op.MemOp.TheVariants.{Push}
use Rattle.demi_memq.specs.declared.out.MemOut.TheVariants.{Pushed}
use Rattle.demi_sharing.proofs.Acts.{acts_of}
use Rattle.demi_sharing.proofs.dealing.push_number.Goals as goal

pub returns-in-Pushed : goal.returns-in-Pushed
returns-in-Pushed g c =
    let gave = c.give_push-token.ensures.gave in
    record {
      of = c.in-Pushed.ensures.of;
      pushed = (
        (Push 0 gave.0, Pushed),
        (gave.0, refl, gave.1),
        acts_of (Push 0 gave.0) Pushed c.give_push-token.result.token.0 c.args.caller.now c.give_push-token.new.caller c.redeem.new.caller gave.2 c.in-Pushed.ensures.came,
      );
    }
