use Rattle.std.proofs.Common.{vec_len}
use Rattle.demi_pdpix.proofs.tests.callers.all_told.Given as goal

abbrev pub decreases-loop-came : goal.decreases-loop-came
decreases-loop-came g l = vec_len l.results
