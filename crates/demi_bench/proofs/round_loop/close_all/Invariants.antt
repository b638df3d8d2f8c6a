use Rattle.std.proofs.Common.{vec_len}
use Rattle.demi_bench.proofs.round_loop.close_all.Given as goal

abbrev pub decreases-closing : goal.decreases-closing
decreases-closing l = vec_len l.ways
