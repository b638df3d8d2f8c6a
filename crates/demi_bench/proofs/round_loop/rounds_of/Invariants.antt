use Rattle.std.proofs.Common.{◌≡◌}
use Rattle.demi_bench.proofs.round_loop.rounds_of.Given as goal

abbrev pub invariant-loop : goal.invariant-loop
invariant-loop l = l.scheduler.ports ≡ 35
