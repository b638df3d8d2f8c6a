use Rattle.std.proofs.Common.{◌≡◌, ◌+◌, ◌++◌, All, length, map, reverse, vec_capacity}
use Rattle.demi_heap.specs.Seen.{PassValue as HeapPassValue, new_pass}
use Rattle.demi_pdpix.specs.Making.{seat_of}
use Rattle.demi_pdpix.specs.Seen.{Pair}
use Rattle.demi_pdpix.proofs.pairing.pair_each.Given as goal

abbrev pub invariant-loop-seat : goal.invariant-loop-seat
invariant-loop-seat g l = record {
  all : l.fn.alone.items ≡ l.alone.items ++ map seat_of (reverse l.pairs.items);
  left : length l.passes.items + length l.fn.alone.items ≡ length l.initial.passes.items + length l.alone.items;
  many : length l.pairs.items + length l.alone.items ≡ length l.fn.alone.items;
  new : All (λ (p : HeapPassValue). p ≡ new_pass l.heap) l.passes.items;
  paired : All (λ (s : Pair g.row.L-Said.Denot g.row.L-Told.Denot g.row.L-Base.Denot). s.1 ≡ new_pass l.heap) (reverse l.pairs.items);
  room : vec_capacity l.passes ≡ vec_capacity l.initial.passes;
  pair_room : vec_capacity l.pairs ≡ vec_capacity l.initial.pairs;
}

abbrev pub decreases-loop-seat : goal.decreases-loop-seat
decreases-loop-seat g l = length l.alone.items
