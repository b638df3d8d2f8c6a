use Rattle.std.proofs.Common.{◌≡◌, ◌+◌, ap, sym, ◌∙◌, subst, arith, length}
use Rattle.demi_heap.specs.Seen.{PassValue}
use Rattle.demi_memq.specs.Counting.{beside}
use Rattle.demi_memq.specs.Segments.{held}
use Rattle.demi_memq.specs.Serving.{ItemsOf}
use Rattle.demi_memq.proofs.Lists.{rest_other}
use Rattle.demi_memq.proofs.Saying.{held_rest, item_of, items_rest}
use Rattle.demi_memq.proofs.emptying.release_queue.Goals as goal

pub loop-sga-smaller : goal.loop-sga-smaller
loop-sga-smaller c = let a = c.in-Some.ensures.less in omega arith

pub release-requires : goal.release-requires
release-requires c = let i = c.loop-sga.invariant in (i.heap, item_of c.args.heap.now c.args.q c.in-Some.sga _ c.loop-sga.waiting.items i.items c.in-Some.ensures.first)

pub loop-sga-preserved : goal.loop-sga-preserved
loop-sga-preserved c =
    let i = c.loop-sga.invariant in let e = c.in-Some.ensures in let q = c.args.q in let w = c.loop-sga.waiting.items in let h = c.args.heap.now in
    record {
      heap = ap (λ (v : PassValue). v.heap) c.release.ensures ∙ i.heap;
      items = subst (ItemsOf h) (sym e.rest) (items_rest h q w i.items);
      others = λ j ne. ap (beside j) e.rest ∙ rest_other q j w ne ∙ i.others j ne;
      pass = c.release.ensures ∙ ap (λ (v : PassValue). record v { returned = c.loop-sga.pass.returned + length c.in-Some.sga }) i.pass
          ∙ ap (λ k. record c.args.pass.now { returned = k }) (sym (ap (λ (v : PassValue). v.returned) c.release.ensures));
      sum = let r = ap (λ (v : PassValue). v.returned) c.release.ensures in let k = ap held e.rest in let l = held_rest q c.in-Some.sga _ w e.first in let s = i.sum in omega arith;
      rooms = (c.pop.ensures.room.1 ∙ i.rooms.0, c.pop.ensures.room.0 ∙ i.rooms.1);
    }
