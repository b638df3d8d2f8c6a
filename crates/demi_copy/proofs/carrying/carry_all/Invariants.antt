use Rattle.demi_copy.specs.Calm.{IsHeld}
use Rattle.demi_copy.proofs.carrying.carry_all.Given as goal

abbrev pub invariant-carrying : goal.invariant-carrying
invariant-carrying g l = IsHeld l.heap l.receiving l.sending l.carrier
