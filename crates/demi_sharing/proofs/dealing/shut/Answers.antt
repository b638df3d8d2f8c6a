use Rattle.demi_memq.specs.declared.op.MemOp.TheVariants.{Close}
use Rattle.demi_memq.specs.declared.out.MemOut.TheVariants.{Shut}
use Rattle.demi_sharing.proofs.Acts.{acts_of}
use Rattle.demi_sharing.proofs.dealing.shut.Goals as goal

pub returns-in-Shut : goal.returns-in-Shut
returns-in-Shut g c = record {
  of = c.in-Shut.ensures.of;
  shut = acts_of (Close 0) Shut c.give_close-token.result.token.0 c.args.caller.now c.give_close-token.new.caller c.redeem.new.caller c.give_close-token.ensures.gave c.in-Shut.ensures.came;
}
