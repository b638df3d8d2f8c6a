use Rattle.demi_pdpix.specs.Seen.{IsOf}
use Rattle.demi_sharing.specs.Acting.{AreLinks, Pops}
use Rattle.demi_sharing.proofs.taking.take_all.Given as goal

abbrev pub invariant-loop : goal.invariant-loop
invariant-loop g l = record {
  of : IsOf l.demi l.caller;
  popped : Pops l.numbers.items l.initial.caller l.caller;
  links : AreLinks l.links l.numbers.items;
}
