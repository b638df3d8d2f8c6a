use Rattle.std.proofs.Common.{length}
use Rattle.demi_sga.specs.Rows.{items}
use Rattle.demi_sga.proofs.lent.+lose_back.Given as goal

abbrev pub decreases-lose_back : goal.decreases-lose_back
decreases-lose_back a = length (items a.row)
