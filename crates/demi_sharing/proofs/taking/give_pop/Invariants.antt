use Rattle.demi_pdpix.specs.Seen.{IsOf}
use Rattle.demi_context.specs.Halting.{HasLooked}
use Rattle.demi_sharing.proofs.taking.give_pop.Given as goal

abbrev pub invariant-loop : goal.invariant-loop
invariant-loop g l = record {
  of : IsOf l.demi l.caller;
  looked : HasLooked l.initial.caller l.caller;
}
