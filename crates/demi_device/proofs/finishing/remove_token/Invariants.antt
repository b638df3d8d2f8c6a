use Rattle.std.proofs.Common.{◌≡◌, ◌≢◌, ℕ, ◌<◌, get_or}
use Rattle.demi_port_core.specs.declared.place.Place.{Place}
use Rattle.demi_port_core.specs.declared.place.Token.{Token}
use Rattle.demi_device.proofs.finishing.remove_token.Given as goal

abbrev pub invariant-loop-i : goal.invariant-loop-i
invariant-loop-i l = record {
  same : l.unanswered ≡ l.initial.unanswered;
  others : (k : ℕ) (d : Place × Token) → k < l.i → (get_or l.unanswered.items k d).0.0 ≢ l.place.0;
}
