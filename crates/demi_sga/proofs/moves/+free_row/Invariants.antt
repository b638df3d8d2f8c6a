use Rattle.std.proofs.Common.{length}
use Rattle.demi_sga.specs.Rows.{items}
use Rattle.demi_sga.proofs.moves.+free_row.Given as goal

abbrev pub decreases-free_row : goal.decreases-free_row
decreases-free_row a = length (items a.row)
