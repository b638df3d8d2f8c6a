use Rattle.std.proofs.Common.{[], refl}
use Rattle.demi_spec.specs.LogText.{entries, entries_within}
use Rattle.demi_audit.proofs.summing.tests.a_bench_is_summed_up.Goals as goal

pub summary-requires-clause-log : goal.summary-requires-clause-log
unfolding entries entries_within
summary-requires-clause-log g c = ([], refl)
