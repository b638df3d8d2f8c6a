-- What is asked and replied is in range.
use Rattle.std.specs.Prelude.{◌≤◌}
use Rattle.demi_spec.specs.Request.{IsRequest}
use Rattle.demi_spec.specs.Input.{Asked, Request_of, Refused_end}

-- a request whose lengths are in range, or one of the five refusals
abbrev pub IsInRange : Asked → Type 0
IsInRange (Request_of request) = IsRequest request
IsInRange (Refused_end code) = (1 ≤ code) × (code ≤ 5)
