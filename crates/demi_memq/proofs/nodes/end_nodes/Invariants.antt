use Rattle.std.proofs.Common.{length}
use Rattle.demi_memq.specs.Chains.{AllFree}
use Rattle.demi_memq.proofs.nodes.end_nodes.Given as goal

abbrev pub invariant-loop-item : goal.invariant-loop-item
invariant-loop-item g l = AllFree l.nodes

abbrev pub decreases-loop-item : goal.decreases-loop-item
decreases-loop-item g l = length l.nodes
