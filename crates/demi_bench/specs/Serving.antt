-- What the device leaves behind.
use Rattle.std.specs.Prelude.{◌≡◌, length}
use Rattle.demi_device.specs.Turning.{WholeDevice}
use Rattle.demi_bench.specs.declared.doubler.Doubler.{Doubler}

-- the port is the same, and each operation that was fetched was served
abbrev pub IsDone : {D T B : Type 0} → WholeDevice Doubler D T B → WholeDevice Doubler D T B → Type 0
IsDone v w = (w.seat.port ≡ v.seat.port) × (w.seat.passes ≡ v.seat.passes) × (length w.seat.fetched ≡ length w.engine.history.value)
