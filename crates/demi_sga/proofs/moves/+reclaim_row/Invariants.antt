use Rattle.std.proofs.Common.{length}
use Rattle.demi_sga.specs.Rows.{items}
use Rattle.demi_sga.proofs.moves.+reclaim_row.Given as goal

abbrev pub decreases-reclaim_row : goal.decreases-reclaim_row
decreases-reclaim_row a = length (items a.row)
