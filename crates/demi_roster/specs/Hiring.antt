-- One step of hiring the workers of a session, and of taking them apart.
use Rattle.std.specs.Prelude.{◌≡◌, ℕ, List, ◌∷◌, All, Option}
use Rattle.arrayvec.specs.ArrayVec.{ArrayVec}
use Rattle.demi_link.specs.Linked.{LinkValue}
use Rattle.demi_port_core.specs.declared.place.QToken.{QToken}
use Rattle.demi_sched.specs.Holding.{SchedulerValue}
use Rattle.demi_worker.specs.declared.ended.Ended.{Ended}
use Rattle.demi_context.specs.ContextPorts.{Caller, Whole}
use Rattle.demi_crew.specs.Serving.{IsEmpty}
use Rattle.demi_roster.specs.Hands.{Done, HandValue, Ready}

-- The first of these callers and the first of these benches are gone, and with that caller this one was hired.
pub record HasHired (links : ℕ) (demi : Whole) (n : ℕ) (opening : Option QToken) (old new : List Caller) (before after : List (SchedulerValue LinkValue)) (h : HandValue) : Type 0 where
  pub caller : Caller
  pub was : old ≡ caller ∷ new
  pub bench : SchedulerValue LinkValue
  pub had : before ≡ bench ∷ after
  pub empty : All (IsEmpty links links) after
  pub hired : h ≡ record { demi = demi; number = n; stage = Ready caller opening }

-- The first of these is gone, and it had this caller and this list.
pub record HasParted (old new : List HandValue) (c : Caller) (e : ArrayVec Ended) : Type 0 where
  pub hand : HandValue
  pub was : old ≡ hand ∷ new
  pub done : hand.stage ≡ Done c e.items
