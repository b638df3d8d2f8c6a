use Rattle.std.proofs.Common.{◌≡◌, ◌≤◌, List, ◌++◌, length, vec_capacity}
use Rattle.demi_port_core.specs.declared.place.QToken.{QToken}
use Rattle.demi_pdpix.specs.Seen.{IsOf}
use Rattle.demi_pdpix.specs.Together.{AllCame}
use Rattle.demi_pdpix.proofs.demi.Demi.wait_all.Given as goal

abbrev pub invariant-loop-i : goal.invariant-loop-i
invariant-loop-i g l = (before : List QToken) × (after : List QToken) × record {
  of : IsOf l.self l.caller;
  all : l.tokens ≡ before ++ after;
  many : length before ≡ l.i;
  filled : length l.results.items ≡ l.i;
  room : length l.tokens ≤ vec_capacity l.results;
  came : AllCame g.X.Law.admits l.self before l.results.items l.initial.caller l.caller;
}
