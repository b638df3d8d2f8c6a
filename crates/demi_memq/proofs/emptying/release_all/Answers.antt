use Rattle.std.proofs.Common.{◌≡◌, ◌≢◌, ◌+◌, ◌<◌, [], ap, sym, ◌∙◌, arith}
use Rattle.demi_heap.specs.Seen.{PassValue}
use Rattle.demi_memq.specs.Counting.{beside}
use Rattle.demi_memq.specs.Segments.{held}
use Rattle.demi_memq.proofs.Lists.{by_number, none_at_all}
use Rattle.demi_memq.proofs.emptying.release_all.Goals as goal

pub loop-q-preserved : goal.loop-q-preserved
loop-q-preserved c =
    let i = c.loop-q.invariant in let e = c.release_queue.ensures in let q = c.loop-q.q in let w' = c.release_queue.new.waiting.items in
    record {
      heap = ap (λ (v : PassValue). v.heap) e.pass ∙ i.heap;
      items = e.left;
      below = λ j. by_number (λ j. j < q + 1 → beside j w' ≡ []) q j (λ _. e.gone) (λ ne lt. e.others j ne ∙ i.below j (omega arith));
      above = λ j le. let ne : q ≢ j = let lt = c.loop-q-test.true in omega arith in e.others j ne ∙ i.above j le;
      pass = e.pass ∙ ap (λ (v : PassValue). record v { returned = c.release_queue.new.pass.returned }) i.pass;
      sum = let s = e.sum in let t = i.sum in omega arith;
      rooms = (e.rooms.0 ∙ i.rooms.0, e.rooms.1 ∙ i.rooms.1, i.rooms.2);
    }

pub returns-clause-pass : goal.returns-clause-pass
returns-clause-pass c =
    let i = c.loop-q.invariant in let none = none_at_all _ c.loop-q.waiting.items (λ j lt. i.below j (let t = c.loop-q-test.false in omega arith)) i.above in
    i.pass ∙ ap (λ k. record c.args.pass.now { returned = k }) (let s = i.sum in let n = ap held none in omega arith)

pub returns-clause-empty : goal.returns-clause-empty
returns-clause-empty c =
    let i = c.loop-q.invariant in none_at_all _ c.loop-q.waiting.items (λ j lt. i.below j (let t = c.loop-q-test.false in omega arith)) i.above
