use Rattle.std.proofs.Common.{◌≡◌, ◌+◌, ◌<◌, ◌++◌, [], ◌∷◌, length}
use Rattle.demi_heap.specs.Seen.{HeapId}
use Rattle.demi_memq.specs.Rooms.{Mid}
use Rattle.demi_memq.specs.Segments.{given}
use Rattle.demi_memq.specs.Serving.{GivenOf, Owes, SameOthers, ends_by, ends_as}
use Rattle.demi_memq.proofs.emptying.end_pops.Given as goal

abbrev pub invariant-loop-first : goal.invariant-loop-first
invariant-loop-first l = record {
  mid : Mid 1024 l.history.value (l.history.value ++ ends_by l.q l.stop ∷ []) l.outcomes.value l.done.added l.pending.items;
  owed : Owes l.history.value (ends_by l.q l.stop) l.q l.pending.items (ends_as l.stop);
  others : SameOthers l.q l.fn.pending.items l.pending.items;
  none : given l.done.added ≡ given l.fn.done.added;
  from : (h : HeapId) → GivenOf h l.fn.done.added → GivenOf h l.done.added;
  room : l.done.room ≡ l.fn.done.room;
  holds : length l.done.added + length l.pending.items < l.done.room;
  rooms : (l.pending.room ≡ l.fn.pending.room) × (l.pending.queues ≡ l.fn.pending.queues);
}

abbrev pub decreases-loop-first : goal.decreases-loop-first
decreases-loop-first l = length l.pending.items
