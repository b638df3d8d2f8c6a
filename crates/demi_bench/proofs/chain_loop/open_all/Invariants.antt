use Rattle.std.proofs.Common.{◌≡◌, vec_capacity, vec_len}
use Rattle.demi_bench.proofs.chain_loop.open_all.Given as goal

abbrev pub invariant-loop : goal.invariant-loop
invariant-loop l = record {
  filled : vec_len l.links ≡ l.counter;
  room : vec_capacity l.links ≡ l.count;
}
