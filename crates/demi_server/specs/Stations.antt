-- What a device at its port comes to.
use Rattle.std.specs.Prelude.{◌≡◌, ℕ, List, Bool, Option, length}
use Rattle.demi_port_core.specs.History.{ground_of}
use Rattle.demi_port_core.specs.Trails.{StartsWith}
use Rattle.demi_device.specs.Serving.{NonePends, places}
use Rattle.demi_device.specs.Turning.{Agrees, Grows, IsAtHand, IsOver, WasQuiet, WholeDevice}

-- A device has served its port to the end of the service, and from v became w. Its engine served on, in order and without a gap, all that
-- the seat fetched, a stop among it; each operation has its outcome, which is admitted by all that was served and told; and nothing of
-- what was there before was taken back.
pub record HasRun {E D T U B : Type 0} (goes : E → E → Type 0) (base : E → B) (room : E → ℕ) (served : E → List D) (finished : E → List (ℕ × U)) (told : U → Option T) (admits : B → List D → List (ℕ × T) → ℕ → U → Type 0) (stops : D → Bool) (v w : WholeDevice E D T B) : Type 0 where
  pub went : goes v.engine w.engine
  pub same_base : base w.engine ≡ base v.engine
  pub same_room : room w.engine ≡ room v.engine
  pub same_port : w.seat.port ≡ v.seat.port
  pub same_passes : w.seat.passes ≡ v.seat.passes
  pub serves_on : StartsWith (served w.engine) (served v.engine)
  pub quiet : WasQuiet v.seat w.seat
  pub over : IsOver stops (served w.engine) w.seat
  pub all_served : ground_of w.seat.fetched ≡ served w.engine
  pub no_next : IsAtHand (length (served w.engine)) w.seat → ⊥
  pub all_answered : NonePends (length (served w.engine)) (places (finished w.engine))
  pub grows : Grows (finished v.engine) (finished w.engine) v.seat w.seat
  pub agrees : Agrees told (admits (base w.engine)) (served w.engine) (finished w.engine) w.seat
