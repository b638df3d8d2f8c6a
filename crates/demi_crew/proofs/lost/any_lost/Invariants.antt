use Rattle.std.proofs.Common.{take}
use Rattle.demi_port_core.specs.History.{Each}
use Rattle.demi_link.specs.Ends.{IsKnown}
use Rattle.demi_worker.specs.declared.ended.Ended.{Ended}
use Rattle.demi_crew.proofs.lost.any_lost.Given as goal

abbrev pub invariant-loop-end : goal.invariant-loop-end
invariant-loop-end l = Each (λ (e : Ended). IsKnown e.cause) (take l.end-index l.ended)
