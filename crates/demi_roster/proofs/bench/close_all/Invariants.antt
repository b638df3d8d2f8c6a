use Rattle.std.proofs.Common.{All}
use Rattle.demi_crew.specs.Serving.{IsEmpty}
use Rattle.demi_roster.proofs.bench.close_all.Given as goal

abbrev pub invariant-loop-bench : goal.invariant-loop-bench
invariant-loop-bench l = All (IsEmpty l.links l.links) l.benches.items

abbrev pub decreases-loop-bench : goal.decreases-loop-bench
decreases-loop-bench l = goal.left-loop-bench l
