use Rattle.std.proofs.Common.{length}
use Rattle.demi_sga.specs.Rows.{items}
use Rattle.demi_sga.proofs.moves.+lend_row.Given as goal

abbrev pub decreases-lend_row : goal.decreases-lend_row
decreases-lend_row a = length (items a.row)
