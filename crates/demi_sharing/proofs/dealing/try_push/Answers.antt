use Rattle.std.proofs.Common.{refl, subst, sym}
use Rattle.demi_sga.specs.Arrays.{AreOf}
use Rattle.demi_sharing.proofs.Acts.{heap_looked, push_none, push_some}
use Rattle.demi_sharing.proofs.dealing.try_push.Goals as goal

pub submit_push-requires-clause-array : goal.submit_push-requires-clause-array
submit_push-requires-clause-array c =
    let heap = c.args.demi.now.heap in
    c.spelled.ensures.heap heap (subst (AreOf heap) (sym c.in-Ok.ensures.ok.1) (refl, tt))

pub returns-in-Ok-clause-some : goal.returns-in-Ok-clause-some
returns-in-Ok-clause-some c =
    push_some c.submit_push.result c.args.number c.spelled.result c.args.caller.now c.sgaalloc.new.caller c.submit_push.new.caller
    (heap_looked c.args.caller.now c.sgaalloc.new.caller c.in-Ok.ensures.only) c.spelled.ensures.number c.submit_push.ensures.some

pub returns-in-Ok-clause-none : goal.returns-in-Ok-clause-none
returns-in-Ok-clause-none c =
    push_none c.submit_push.result c.args.caller.now c.sgaalloc.new.caller c.submit_push.new.caller
    (heap_looked c.args.caller.now c.sgaalloc.new.caller c.in-Ok.ensures.only) c.submit_push.ensures.none
