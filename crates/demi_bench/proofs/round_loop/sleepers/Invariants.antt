use Rattle.std.proofs.Common.{◌≡◌, ◌≤◌, ◌<◌}
use Rattle.demi_port_core.specs.History.{Each}
use Rattle.demi_sched.specs.Going.{names_of}
use Rattle.demi_bench.proofs.round_loop.sleepers.Given as goal

abbrev pub invariant-loop-name : goal.invariant-loop-name
invariant-loop-name l = record {
  ports : l.scheduler.ports ≡ 35;
  added : l.scheduler.added ≤ l.name;
  names : Each (λ n. n < l.name) (names_of (λ k. k.name) l.scheduler.held);
}
