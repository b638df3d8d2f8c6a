use Rattle.std.proofs.Common.{length}
use Rattle.demi_sga.specs.Rows.{items}
use Rattle.demi_sga.proofs.moves.+rejoin_row.Given as goal

abbrev pub decreases-rejoin_row : goal.decreases-rejoin_row
decreases-rejoin_row a = length (items a.row)
