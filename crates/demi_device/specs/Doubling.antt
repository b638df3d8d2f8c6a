-- An engine that doubles numbers until a zero comes, for the tests.
use Rattle.std.specs.Prelude.{◌≡◌, ℕ, ◌+◌, ◌*◌, ◌==◌, List, [], ◌∷◌, Option, length}
use Rattle.demi_port.specs.Seen.{PassValue}
use Rattle.demi_device.specs.Serving.{first_stop}

-- twice each number, with its place from p on
abbrev pub doubled : ℕ → List ℕ → List (ℕ × ℕ)
doubled p [] = []
doubled p (n ∷ ns) = (p, 2 * n) ∷ doubled (p + 1) ns

-- the place of the first zero
abbrev pub first_zero : List ℕ → Option ℕ
first_zero = first_stop (λ n. n == 0) 0

-- the pass submitted n operations more, and redeemed as many
abbrev pub IsAnswered : {D T B : Type 0} → ℕ → PassValue D T B → PassValue D T B → Type 0
IsAnswered n v w = (w.port ≡ v.port) × (w.number ≡ v.number) × (length w.submitted ≡ length v.submitted + n) × (length w.redeemed ≡ length v.redeemed + n)
