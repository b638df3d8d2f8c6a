use Rattle.std.proofs.Common.{[]}
use Rattle.demi_bench.proofs.round_loop.nothing_seen.Given as goal

abbrev pub ghost-from : goal.ghost-from
ghost-from a = []
