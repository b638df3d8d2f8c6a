use Rattle.std.proofs.Common.{length, ◌-◌}
use Rattle.demi_sga.specs.Rows.{items}
use Rattle.demi_sga.proofs.dev.+part_from.Given as goal

abbrev pub decreases-part_from : goal.decreases-part_from
decreases-part_from a = length (items a.row.now) - a.i
