use Rattle.std.proofs.Common.{◌≡◌, length}
use Rattle.demi_memq.specs.Chains.{AllFree}
use Rattle.demi_memq.proofs.nodes.make_nodes.Given as goal

abbrev pub invariant-loop : goal.invariant-loop
invariant-loop g l = record { count : length l.nodes ≡ l.counter; free : AllFree l.nodes }
