-- A law with no stop.
use Rattle.std.proofs.Common.{◌≡◌, ℕ, ◌+◌, false, List, [], ◌∷◌, refl}
use Rattle.std.specs.Prelude.{None}
use Rattle.demi_device.specs.Serving.{first_stop}

pub none_stops : (p : ℕ) (h : List ℕ) → first_stop (λ (n : ℕ). false) p h ≡ None
none_stops p [] = refl
none_stops p (x ∷ h) = none_stops (p + 1) h
