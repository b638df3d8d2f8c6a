use Rattle.std.proofs.Common.{refl}
use Rattle.demi_audit.proofs.InOrder.{put_stored}
use Rattle.demi_audit.proofs.Keeping.{on_ok}
use Rattle.demi_audit.proofs.one_link.answer_put.Goals as goal

pub returns : goal.returns
returns c =
    on_ok c.say-2.result
    (λ says rs keeps.
    put_stored rs c.args.limit c.args.index c.args.store.now.count c.args.key.now c.args.value.now c.args.output.now.items c.say-2.new.output.items c.args.store.now c.put.new.self keeps refl c.if-count-limit.false
    (c.in_ok-put.ensures rs keeps) says)
    c.say-2.ensures
