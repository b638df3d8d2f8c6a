use Rattle.std.proofs.Common.{◌∙◌, add-one, get_or, subst, sym, take, length, ◌≤◌}
use Rattle.demi_crew.specs.Taking.{HasTaken}
use Rattle.demi_crew.proofs.TakenIn.{may_take, same_element, taken_next}
use Rattle.demi_sched.proofs.Lists.{take_next}
use Rattle.demi_crew.proofs.taking.take_in_all.Goals as goal

pub take_in_one-requires : goal.take_in_one-requires
take_in_one-requires g c =
    let first = c.args.worker.now in let ns = c.args.numbers.now in let i = c.loop-link.link-index in let v = c.loop-link.invariant in
    may_take first.context.demi first.number first.context.caller ns i (get_or ns i 0) c.loop-link.worker v.taken c.requires.differ
    (subst (λ n. length ns ≤ n) (sym v.room) c.requires.room) c.loop-link-test.true (same_element ns i 0 c.loop-link-test.true)

pub loop-link-preserved : goal.loop-link-preserved
loop-link-preserved g c =
    let first = c.args.worker.now in let ns = c.args.numbers.now in let i = c.loop-link.link-index in let v = c.loop-link.invariant in
    let next = taken_next first.context.demi first.number first.context.caller (take i ns) (get_or ns i 0) c.loop-link.worker c.take_in_one.new.worker v.taken c.take_in_one.ensures in
    record {
      taken = rw add-one (subst (λ xs. HasTaken first.context.demi first.number first.context.caller xs c.take_in_one.new.worker) (sym (take_next ns i (get_or ns i 0) c.loop-link-test.true (same_element ns i 0 c.loop-link-test.true))) next);
      room = c.take_in_one.ensures.room ∙ v.room;
    }
