use Rattle.demi_bench.specs.Asking.{IsFirst}
use Rattle.demi_bench.proofs.chain_loop.work.Given as goal

abbrev pub invariant-loop-op : goal.invariant-loop-op
invariant-loop-op g l = record {
  rx : IsFirst l.rx l.rx_pass;
  store : IsFirst l.store l.store_pass;
  tx : IsFirst l.tx l.tx_pass;
}
