use Rattle.std.proofs.Common.{◌≡◌}
use Rattle.demi_copy.proofs.waiting.ask.Given as goal

abbrev pub invariant-loop : goal.invariant-loop
invariant-loop g l = record {
  same : (l.pass.port ≡ l.port) × (l.pass.number ≡ l.fn.pass.number);
  none : (l.pass.submitted ≡ l.fn.pass.submitted) × (l.pass.redeemed ≡ l.fn.pass.redeemed);
  next : l.next ≡ l.fn.op;
}
