use Rattle.std.proofs.Common.{◌≡◌, ℕ, ◌+◌, ◌<◌, ◌≤◌, ◌++◌, [], ◌∷◌, length}
use Rattle.demi_heap.specs.Seen.{HeapId}
use Rattle.demi_memq.specs.declared.op.MemOp.TheVariants.{Stop}
use Rattle.demi_memq.specs.declared.out.MemOut.TheVariants.{Stopped}
use Rattle.demi_memq.specs.Counting.{beside}
use Rattle.demi_memq.specs.Rooms.{Mid}
use Rattle.demi_memq.specs.Segments.{given}
use Rattle.demi_memq.specs.Serving.{GivenOf, OwesAll}
use Rattle.demi_memq.proofs.emptying.stop_all.Given as goal

abbrev pub invariant-loop-q : goal.invariant-loop-q
invariant-loop-q l = record {
  mid : Mid 1024 l.history.value (l.history.value ++ Stop ∷ []) l.outcomes.value l.done.added l.pending.items;
  owed : OwesAll l.history.value Stop l.pending.items (Stopped l.place);
  below : (j : ℕ) → j < l.q → beside j l.pending.items ≡ [];
  above : (j : ℕ) → l.q-end ≤ j → beside j l.pending.items ≡ [];
  none : given l.done.added ≡ given l.fn.done.added;
  from : (h : HeapId) → GivenOf h l.fn.done.added → GivenOf h l.done.added;
  room : l.done.room ≡ l.fn.done.room;
  holds : length l.done.added + length l.pending.items < l.done.room;
  rooms : (l.pending.room ≡ l.fn.pending.room) × (l.pending.queues ≡ l.fn.pending.queues) × (l.q-end ≡ l.fn.pending.queues);
}
