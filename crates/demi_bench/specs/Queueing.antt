-- What calls of a port of memory queues leave behind.
use Rattle.std.specs.Prelude.{◌≡◌, ◌+◌, length}
use Rattle.demi_device.specs.Turning.{WholeDevice}
use Rattle.demi_port.specs.Seen.{PassValue}
use Rattle.demi_memq.specs.Engine.{MemValue}

-- the device is at the same port, and its engine on the same heap
abbrev pub GoesOn : {D T B : Type 0} → WholeDevice MemValue D T B → WholeDevice MemValue D T B → Type 0
GoesOn v w = (w.seat.port ≡ v.seat.port) × (w.seat.passes ≡ v.seat.passes) × (w.engine.pass.heap ≡ v.engine.pass.heap)

-- the same pass submitted as many operations more as it redeemed
abbrev pub StaysEven : {D T B : Type 0} → PassValue D T B → PassValue D T B → Type 0
StaysEven p q = (q.port ≡ p.port) × (q.number ≡ p.number) × (length q.submitted + length p.redeemed ≡ length p.submitted + length q.redeemed)
