use Rattle.std.proofs.Common.{length}
use Rattle.demi_sga.specs.Rows.{items}
use Rattle.demi_sga.proofs.moves.+release_row.Given as goal

abbrev pub decreases-release_row : goal.decreases-release_row
decreases-release_row a = length (items a.row)
