use denote.RattleType.{RattleType}
use denote.Param.Send.{IsSend}
use Rattle.demi_device.specs.contracts.mark.Mark.{the_row}

pub send : (B : RattleType) → IsSend (the_row B)
send B = record { owned = λ d vs. ((λ vss. (tt, ((λ uss. (tt, tt)), tt))), tt); leaving = λ k f vs. tt }
