use Rattle.demi_memq.specs.Chains.{AllEmpty}
use Rattle.demi_memq.proofs.nodes.end_lists.Given as goal

abbrev pub invariant-loop-list : goal.invariant-loop-list
invariant-loop-list g l = AllEmpty l.lists.items

abbrev pub decreases-loop-list : goal.decreases-loop-list
decreases-loop-list g l = l.lists.len
