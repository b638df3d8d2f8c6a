use denote.RattleType.{RattleType}
use denote.Param.Send.{IsSync}
use Rattle.demi_buf.proofs.Crosses.{Cells-sync}
use Rattle.demi_buf.specs.contracts.cells.Cells.{the_row}

pub sync : (R : RattleType) → IsSync R → IsSync (the_row R)
sync = Cells-sync
