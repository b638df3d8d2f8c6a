-- The stages of a hand's work, and what its work and its last work come to.
use Rattle.std.proofs.Common.{◌≡◌, ℕ, List, [], length, refl, sym, ap, subst, arith}
use Rattle.demi_pdpix.specs.Seen.{IsNewCaller}
use Rattle.demi_sched.specs.Holding.{SchedulerValue}
use Rattle.demi_link.specs.Linked.{LinkValue}
use Rattle.demi_worker.specs.Standing.{Stands}
use Rattle.demi_worker.specs.declared.ended.Ended.{Ended}
use Rattle.demi_worker.specs.declared.worker.Worker.{Worker}
use Rattle.demi_context.specs.ContextPorts.{Caller, Whole}
use Rattle.demi_context.specs.ContextSights.{ContextValue, ports_of, sight_of}
use Rattle.demi_server.specs.Hands.{HandValue, HasFinished, HasServed, ServedLink}
use Rattle.demi_server.specs.Hands as value
use Rattle.demi_server.specs.Staging.{IsUnused, StopsShared, stage_of}
use Rattle.demi_server.specs.declared.hand.stage.Stage.{Stage}
use Rattle.demi_server.proofs.OnlyServed.{first_context}

abbrev pub first_scheduler : SchedulerValue LinkValue
first_scheduler = record { room = 1; ports = 5; added = 0; held = [] }

-- a worker that was just made
pub unused_first : (demi : Whole) (number : ℕ) (caller : Caller) (w : Worker ContextValue) → (length demi.rx ≡ 1) × (length demi.tx ≡ 1) → IsNewCaller demi number caller
    → w.context ≡ first_context demi number caller → w.number ≡ number → w.scheduler ≡ first_scheduler → w.ended.items ≡ []
    → Stands (ports_of w.context) (sight_of w.context) w.scheduler w.ended.items → IsUnused demi number w
unused_first demi number caller w one new context same scheduler none stands = record {
  one = one;
  new = subst (λ (c : ContextValue). IsNewCaller demi number c.caller) (sym context) new;
  context = subst (λ (c : ContextValue). c ≡ first_context demi number c.caller) (sym context) refl;
  number_is = same;
  held = ap (λ (s : SchedulerValue LinkValue). s.held) scheduler;
  none = none;
  room = let r = ap (λ (s : SchedulerValue LinkValue). s.room) scheduler in omega (arith, r);
  stands = stands;
}

-- A hand with these fields.
module _ (h : HandValue) (d : Whole) (n : ℕ) (s : Stage) (view_is : record { demi = d; number = n; stage = stage_of s } ≡ h) where
  -- it has done its work
  pub has_served : (m : ℕ) (caller : Caller) (ended : List Ended) → m ≡ n → ServedLink d m caller ended → HasServed h (record { demi = d; number = n; stage = value.Done caller ended })
  has_served m caller ended same served = subst (λ (z : HandValue). HasServed z (record { demi = d; number = n; stage = value.Done caller ended })) view_is (record {
    demi = refl;
    number = refl;
    caller = caller;
    ended = ended;
    stage = refl;
    served = subst (λ (k : ℕ). ServedLink d k caller ended) same served;
  })

  -- and the last of it
  pub has_finished : (before after : Caller) (ended : List Ended) → stage_of s ≡ value.Done before ended → StopsShared d before after → HasFinished h (record { demi = d; number = n; stage = value.Done after ended })
  has_finished before after ended was stops = subst (λ (z : HandValue). HasFinished z (record { demi = d; number = n; stage = value.Done after ended })) view_is (record {
    demi = refl;
    number = refl;
    before = before;
    after = after;
    ended = ended;
    was = was;
    is = refl;
    of = stops.of;
    memory_stop = stops.memory_stop;
    store_stops = stops.store_stops;
    rx = stops.rx;
    tx = stops.tx;
    owes = stops.owes;
  })
