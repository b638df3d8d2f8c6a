use Rattle.std.proofs.Common.{◌≡◌, ◌+◌, length}
use Rattle.demi_memq.specs.Segments.{held}
use Rattle.demi_memq.specs.Serving.{ItemsOf, SameOthers}
use Rattle.demi_memq.proofs.emptying.release_queue.Given as goal

abbrev pub invariant-loop-sga : goal.invariant-loop-sga
invariant-loop-sga l = record {
  heap : l.pass.heap ≡ l.heap;
  items : ItemsOf l.heap l.waiting.items;
  others : SameOthers l.q l.fn.waiting.items l.waiting.items;
  pass : l.pass ≡ record (l.fn.pass) { returned = l.pass.returned };
  sum : l.pass.returned + held l.waiting.items ≡ l.fn.pass.returned + held l.fn.waiting.items;
  rooms : (l.waiting.room ≡ l.fn.waiting.room) × (l.waiting.queues ≡ l.fn.waiting.queues);
}

abbrev pub decreases-loop-sga : goal.decreases-loop-sga
decreases-loop-sga l = length l.waiting.items
