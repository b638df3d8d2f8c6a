use Rattle.std.proofs.Common.{◌+◌, ◌∙◌, ◌<◌, arith, length, length-set}
use Rattle.demi_sharing.proofs.New.{set_out_at, set_out_set}
use Rattle.demi_sharing.proofs.opening.all_learn.Goals as goal

pub learn_of_queue-requires-clause-caller : goal.learn_of_queue-requires-clause-caller
learn_of_queue-requires-clause-caller c =
    let others = c.loop-i.others in
    let t = c.loop-i-test.true in
    let long = c.loop-i.invariant.long in
    let end = c.loop-i.auto.i-end in
    let low : c.loop-i.i < length others = omega arith in
    (set_out_at c.args.demi.now 1 c.loop-i.i others c.index-others-i.result low c.loop-i.invariant.others).owes.0

pub loop-i-preserved : goal.loop-i-preserved
loop-i-preserved c =
    let d = c.args.demi.now in
    let others = c.loop-i.others in
    let i = c.loop-i.i in
    let z = c.learn_of_queue.new.caller in
    let t = c.loop-i-test.true in
    let long = c.loop-i.invariant.long in
    let end = c.loop-i.auto.i-end in
    let low : i < length others = omega arith in
    let was = set_out_at d 1 i others c.index-others-i.result low c.loop-i.invariant.others in
    record {
      first = c.learn_of_queue.ensures.first 0 c.args.token c.loop-i.invariant.first;
      others = set_out_set d 1 i others z c.loop-i.invariant.others (c.learn_of_queue.ensures.caller (1 + i) was);
      long = length-set others i z ∙ c.loop-i.invariant.long;
    }
