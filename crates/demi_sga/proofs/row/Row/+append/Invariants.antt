use Rattle.std.proofs.Common.{length}
use Rattle.demi_sga.specs.Rows.{items}
use Rattle.demi_sga.proofs.row.Row.+append.Given as goal

abbrev pub decreases-append : goal.decreases-append
decreases-append g a = length (items a.self)
