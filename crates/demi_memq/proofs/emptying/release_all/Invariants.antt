use Rattle.std.proofs.Common.{◌≡◌, ℕ, ◌+◌, ◌<◌, ◌≤◌, []}
use Rattle.demi_memq.specs.Counting.{beside}
use Rattle.demi_memq.specs.Segments.{held}
use Rattle.demi_memq.specs.Serving.{ItemsOf}
use Rattle.demi_memq.proofs.emptying.release_all.Given as goal

abbrev pub invariant-loop-q : goal.invariant-loop-q
invariant-loop-q l = record {
  heap : l.pass.heap ≡ l.heap;
  items : ItemsOf l.heap l.waiting.items;
  below : (j : ℕ) → j < l.q → beside j l.waiting.items ≡ [];
  above : (j : ℕ) → l.q-end ≤ j → beside j l.waiting.items ≡ [];
  pass : l.pass ≡ record (l.fn.pass) { returned = l.pass.returned };
  sum : l.pass.returned + held l.waiting.items ≡ l.fn.pass.returned + held l.fn.waiting.items;
  rooms : (l.waiting.room ≡ l.fn.waiting.room) × (l.waiting.queues ≡ l.fn.waiting.queues) × (l.q-end ≡ l.fn.waiting.queues);
}
