use Rattle.std.proofs.Common.{[], ◌++◌, ◌∷◌}
use Rattle.demi_bench.proofs.round_loop.seen_more.Given as goal

abbrev pub ghost-from : goal.ghost-from
ghost-from a = a._first.now.value ++ a._second.now ∷ []
