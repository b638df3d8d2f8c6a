use denote.RattleType.{RattleType}
use denote.Param.Send.{IsSend}
use Rattle.demi_buf.proofs.Crosses.{Cells-send}
use Rattle.demi_buf.specs.contracts.cells.Cells.{the_row}

pub send : (R : RattleType) → IsSend R → IsSend (the_row R)
send = Cells-send
