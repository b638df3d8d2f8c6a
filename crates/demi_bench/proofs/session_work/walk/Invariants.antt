use Rattle.std.proofs.Common.{◌≡◌}
use Rattle.demi_bench.specs.Linking.{ArePaired, IsLineOf, OwesAll}
use Rattle.demi_bench.proofs.session_work.walk.Given as goal

abbrev pub invariant-loop-i : goal.invariant-loop-i
invariant-loop-i g l = record {
  lines : ArePaired (IsLineOf l.requests) l.wires l.lines;
  store : OwesAll l.store l.lines l.pass;
  number : l.pass.number ≡ l.fn.pass.number;
}
