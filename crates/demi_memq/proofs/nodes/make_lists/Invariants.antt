use Rattle.std.proofs.Common.{◌≡◌, ◌≤◌, length}
use Rattle.demi_memq.specs.Chains.{AllEmpty}
use Rattle.demi_memq.proofs.nodes.make_lists.Given as goal

abbrev pub invariant-loop : goal.invariant-loop
invariant-loop g l = record { count : length l.lists.items ≡ l.counter; room : l.count ≤ l.lists.cap; empty : AllEmpty l.lists.items }
