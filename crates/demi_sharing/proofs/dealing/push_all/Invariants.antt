use Rattle.demi_pdpix.specs.Seen.{IsOf}
use Rattle.demi_sharing.specs.Acting.{Pushes}
use Rattle.demi_sharing.proofs.dealing.push_all.Given as goal

abbrev pub invariant-loop-number : goal.invariant-loop-number
invariant-loop-number g l = record {
  of : IsOf l.demi l.caller;
  pushed : Pushes l.number l.initial.caller l.caller;
}
