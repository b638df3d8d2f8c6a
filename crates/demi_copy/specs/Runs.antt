-- What a device's run leaves behind.
use Rattle.std.specs.Prelude.{◌≡◌, List, Bool}
use Rattle.demi_device.specs.Turning.{IsOver, WholeDevice}

-- the engine is of the same base, the port is the same, a stop was served, and so was each operation that was fetched
pub record HasRun {E D T B : Type 0} (base : E → B) (stops : D → Bool) (served : E → List D) (v w : WholeDevice E D T B) : Type 0 where
  pub base_is : base w.engine ≡ base v.engine
  pub port : (w.seat.port ≡ v.seat.port) × (w.seat.passes ≡ v.seat.passes)
  pub over : IsOver stops (served w.engine) w.seat
