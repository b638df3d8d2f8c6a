-- The places of a session's workers.
use Rattle.std.specs.Prelude.{◌≡◌, ℕ, ◌≤◌, [], All, length}
use Rattle.std.specs.Vec.{vec_capacity}
use Rattle.demi_crew.specs.Serving.{IsEmpty}
use Rattle.demi_roster.specs.declared.places.Places.{Places}

-- There is a bench for each of so many workers, with room for so many links; nobody is there, and there is room for all.
pub record HasPlaces (links workers : ℕ) (p : Places) : Type 0 where
  pub many : length p.benches.items ≡ workers
  pub empty : All (IsEmpty links links) p.benches.items
  pub crew : (p.crew.items ≡ []) × (workers ≤ vec_capacity p.crew)
  pub callers : (p.callers.items ≡ []) × (workers ≤ vec_capacity p.callers)
  pub ended : (p.ended.items ≡ []) × (workers ≤ vec_capacity p.ended)
