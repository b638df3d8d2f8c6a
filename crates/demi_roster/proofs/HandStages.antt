-- The stages of a hand's work, and what its work and its last work come to.
use Rattle.std.proofs.Common.{◌≡◌, ℕ, List, refl, subst}
use Rattle.std.specs.Prelude.{Option, is_some}
use Rattle.demi_port_core.specs.declared.place.QToken.{QToken}
use Rattle.demi_worker.specs.declared.ended.Ended.{Ended}
use Rattle.demi_context.specs.ContextPorts.{Caller, Whole}
use Rattle.demi_roster.specs.Hands.{HandValue, HasFinished, HasServed, ServedShare}
use Rattle.demi_roster.specs.Hands as value
use Rattle.demi_roster.specs.Staging.{StopsShared, stage_of}
use Rattle.demi_roster.specs.declared.hand.stage.Stage.{Stage}

-- A hand with these fields.
module _ (h : HandValue) (d : Whole) (n : ℕ) (s : Stage) (view_is : record { demi = d; number = n; stage = stage_of s } ≡ h) where
  -- it has done its work
  pub has_served : (was caller : Caller) (opening : Option QToken) (ended : List Ended) → stage_of s ≡ value.Ready was opening
      → (numbers : List ℕ) × ServedShare d n (is_some opening) caller numbers ended → HasServed h (record { demi = d; number = n; stage = value.Done caller ended })
  has_served was caller opening ended ready share = subst (λ (z : HandValue). HasServed z (record { demi = d; number = n; stage = value.Done caller ended })) view_is (record {
    demi = refl;
    number = refl;
    was = was;
    opening = opening;
    ready = ready;
    caller = caller;
    ended = ended;
    stage = refl;
    numbers = share.0;
    share = share.1;
  })

  -- and the last of it
  pub has_finished : (before after : Caller) (ended : List Ended) → stage_of s ≡ value.Done before ended → StopsShared d before after → HasFinished h (record { demi = d; number = n; stage = value.Done after ended })
  has_finished before after ended was stops = subst (λ (z : HandValue). HasFinished z (record { demi = d; number = n; stage = value.Done after ended })) view_is (record {
    demi = refl;
    number = refl;
    before = before;
    after = after;
    ended = ended;
    was = was;
    is = refl;
    of = stops.of;
    memory_stop = stops.memory_stop;
    store_stops = stops.store_stops;
    rx = stops.rx;
    tx = stops.tx;
    owes = stops.owes;
  })
