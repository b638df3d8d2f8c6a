use denote.RattleType.{RattleType}
use denote.Param.Send.{IsSync, part_keyless}
use Rattle.demi_device.specs.contracts.mark.Mark.{the_row}
use Rattle.demi_device.proofs.mark.Mark.TheSendSync.Send.{send}

pub sync : (B : RattleType) → IsSync (the_row B)
sync B = record { shared = λ d b o κ q. part_keyless (the_row B) (send B) q d b o }
