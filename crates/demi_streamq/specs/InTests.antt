-- What the tests keep between two operations.
use Rattle.std.specs.Prelude.{◌≡◌, length}
use Rattle.demi_port.specs.Seen.{PassValue, PortId}

-- the first pass of the port, with nothing in flight
abbrev pub IsCalm : {D T B : Type 0} → PortId B → PassValue D T B → Type 0
IsCalm port p = (p.port ≡ port) × (p.number ≡ 0) × (length p.submitted ≡ length p.redeemed)
