use Rattle.std.proofs.Common.{◌≡◌, ◌∙◌, ◌+◌, ◌≤◌, add-one, ap, arith, length, length-take, sym, take}
use Rattle.demi_sched.specs.Waiting.{is_due, count_due}
use Rattle.demi_sched.proofs.Dues.{due_at_most, due_few, due_next}
use Rattle.demi_sched.proofs.Lists.{all_taken}
use Rattle.demi_sched.proofs.holding.count_due.Goals as goal

pub overflow_add-due : goal.overflow_add-due
overflow_add-due g c = let hs = c.deref-held-items.result.now in
    let v : c.loop-held.due ≡ count_due (take c.loop-held.held-index hs) = c.loop-held.invariant in
    let few : count_due (take c.loop-held.held-index hs) ≤ length (take c.loop-held.held-index hs) = due_few
    (take c.loop-held.held-index hs) in let n = length-take c.loop-held.held-index hs in
    let e = ap length c.deref-held-items.ensures.value in let r = c.requires in let k = c.count_due-due.ensures in
    let o = due_at_most (is_due c.held-item.result.state) in omega arith

pub loop-held-preserved : goal.loop-held-preserved
loop-held-preserved g c = let hs = c.deref-held-items.result.now in
    ap (λ n. n + c.count_due-due.result) c.loop-held.invariant
    ∙ ap (λ n. count_due (take c.loop-held.held-index hs) + n) c.count_due-due.ensures
    ∙ sym (rw add-one (due_next hs c.loop-held.held-index c.held-item.result c.loop-held-test.true c.held-item.is))

pub returns : goal.returns
returns g c = let hs = c.deref-held-items.result.now in let t = c.loop-held-test.false in
    let u = c.loop-held.auto.held-index-end in let same : c.loop-held.held-index ≡ length hs = omega arith in
    c.loop-held.invariant ∙ ap (λ n. count_due (take n hs)) same ∙ ap count_due (all_taken hs ∙ c.deref-held-items.ensures.value)
