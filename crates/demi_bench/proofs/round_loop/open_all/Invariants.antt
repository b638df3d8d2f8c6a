use Rattle.std.proofs.Common.{◌≡◌, vec_capacity, vec_len}
use Rattle.demi_bench.proofs.round_loop.open_all.Given as goal

abbrev pub invariant-loop : goal.invariant-loop
invariant-loop l = record {
  filled : vec_len l.ways ≡ l.counter;
  room : vec_capacity l.ways ≡ 35;
}
