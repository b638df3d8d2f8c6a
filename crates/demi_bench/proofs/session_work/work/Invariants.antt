use Rattle.std.proofs.Common.{◌≡◌}
use Rattle.demi_bench.specs.Linking.{ArePaired, IsLineOf, OwesAll}
use Rattle.demi_bench.proofs.session_work.work.Given as goal

abbrev pub invariant-loop : goal.invariant-loop
invariant-loop g l = record {
  lines : ArePaired (IsLineOf l.duty.requests) l.wires l.lines;
  store : OwesAll l.store l.lines l.pass;
  number : l.pass.number ≡ l.fn.pass.number;
}
