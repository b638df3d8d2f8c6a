use Rattle.std.proofs.Common.{◌≡◌, length}
use Rattle.demi_bench.proofs.round_loop.scan_each.Given as goal

abbrev pub invariant-loop-name : goal.invariant-loop-name
invariant-loop-name l = length l.ways.seen.value ≡ l.name
