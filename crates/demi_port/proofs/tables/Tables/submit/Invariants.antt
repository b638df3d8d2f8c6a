use Rattle.std.proofs.Common.{◌≡◌, ℕ, ◌<◌, [], Some}
use Rattle.demi_port_core.specs.declared.view.Slip.TheVariants.{Asked}
use Rattle.demi_port_core.specs.Told.{LookedOn, MissedSince}
use Rattle.demi_port.proofs.tables.Tables.submit.Given as goal

abbrev pub invariant-loop-index : goal.invariant-loop-index
invariant-loop-index g l = record {
  port : l.pass.seat.table_id ≡ l.self.table.shared.table_id;
  beside : l.pass.record ≡ l.fn.pass.record;
  bare : l.pass.seat.me.1 ≡ [];
  later : LookedOn l.fn.pass.seat.me.0 l.pass.seat.me.0;
  missed : (i : ℕ) → i < l.index → MissedSince l.pass.seat.me.0 l.fn.pass.seat.me.0.clock i;
  slip : l.slip ≡ Some (Asked 0 l.fn.op);
}
