use Rattle.std.proofs.Common.{◌≡◌, ◌*◌, ◌≤◌, take}
use Rattle.demi_sga.specs.Rows.{items}
use Rattle.demi_sga.specs.Arrays.{byte_count}
use Rattle.demi_sga.proofs.dev.len_of.Given as goal

abbrev pub invariant-loop-i : goal.invariant-loop-i
invariant-loop-i l = (l.total ≡ byte_count (take l.i (items l.row))) × (l.total ≤ 65536 * l.i)
