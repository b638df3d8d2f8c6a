-- What a port is, by its number.
use Rattle.std.specs.Prelude.{ℕ, ◌-◌, ◌%◌, ◌/◌, ◌==◌, nat_lt, cond, length}
use Rattle.demi_pdpix.specs.Seen.{DemiId}
use Rattle.demi_pdpix.specs.declared.kind.PortKind.{PortKind}
use Rattle.demi_pdpix.specs.declared.kind.PortKind.TheVariants.{Memory, Service, Journal, Receiving, Sending, Nowhere}

-- the port of link k that receives, where the side is 0, or that sends
abbrev pub side_of : {B : Type 0} → DemiId B → ℕ → ℕ → PortKind
side_of d side k = cond (side == 0)
    (cond (nat_lt k (length d.rx)) (Receiving k) Nowhere)
    (cond (nat_lt k (length d.tx)) (Sending k) Nowhere)

-- the kind of the port with this number
abbrev pub kind_of : {B : Type 0} → DemiId B → ℕ → PortKind
kind_of d port = cond (port == 0) Memory
    (cond (port == 1) Service
    (cond (port == 2) (cond (nat_lt 0 (length d.journal)) Journal Nowhere)
    (side_of d ((port - 3) % 2) ((port - 3) / 2))))
