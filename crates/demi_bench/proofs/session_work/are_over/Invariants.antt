use Rattle.std.proofs.Common.{ℕ, ◌<◌, get_or}
use Rattle.demi_bench.specs.Linking.{IsOver}
use Rattle.demi_bench.specs.declared.line.Line.{Line}
use Rattle.demi_bench.proofs.session_work.are_over.Given as goal

abbrev pub invariant-loop-i : goal.invariant-loop-i
invariant-loop-i l = (k : ℕ) (d : Line) → k < l.i → IsOver l.requests (get_or l.lines k d)
