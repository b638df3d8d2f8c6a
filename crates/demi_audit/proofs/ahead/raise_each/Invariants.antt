use Rattle.std.proofs.Common.{ℕ}
use Rattle.demi_audit.specs.Turns.{IsTable}
use Rattle.demi_audit.proofs.Raising.{RaisedBefore}
use Rattle.demi_audit.proofs.ahead.raise_each.Given as goal

abbrev pub invariant-workers : goal.invariant-workers
invariant-workers l = (f : ℕ → ℕ → ℕ) → IsTable l.places f l.fn.table → RaisedBefore l.places f l.table l.worker
