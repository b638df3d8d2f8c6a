use Rattle.std.proofs.Common.{◌≡◌, ◌≤◌}
use Rattle.demi_buf.specs.Places.{cleared}
use Rattle.demi_buf.proofs.buf.clear.Given as goal

abbrev pub invariant-loop-i : goal.invariant-loop-i
invariant-loop-i l = (l.cells.at ≡ l.fn.cells.at) × (l.from ≤ l.i) × (l.i ≤ l.to) × (l.cells.slots ≡ cleared l.from l.i l.fn.cells.slots)
