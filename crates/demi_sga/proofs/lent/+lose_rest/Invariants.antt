use Rattle.std.proofs.Common.{length}
use Rattle.demi_sga.specs.Rows.{items}
use Rattle.demi_sga.proofs.lent.+lose_rest.Given as goal

abbrev pub decreases-lose_rest : goal.decreases-lose_rest
decreases-lose_rest a = length (items a.row)
