use Rattle.std.proofs.Common.{length}
use Rattle.demi_sga.specs.Rows.{items}
use Rattle.demi_sga.proofs.app.+lose_all.Given as goal

abbrev pub decreases-lose_all : goal.decreases-lose_all
decreases-lose_all a = length (items a.row)
