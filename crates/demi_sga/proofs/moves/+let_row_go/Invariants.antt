use Rattle.std.proofs.Common.{length}
use Rattle.demi_sga.specs.Rows.{items}
use Rattle.demi_sga.proofs.moves.+let_row_go.Given as goal

abbrev pub decreases-let_row_go : goal.decreases-let_row_go
decreases-let_row_go a = length (items a.row)
