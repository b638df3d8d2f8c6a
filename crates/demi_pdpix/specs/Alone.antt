-- What the tests say of a whole with one caller.
use Rattle.std.specs.Prelude.{◌≡◌, List, [], ◌∷◌}
use Rattle.demi_pdpix.specs.Owing.{Owes}
use Rattle.demi_pdpix.specs.Seen.{CallerValue, DemiId}

-- there is one caller, which has nothing outstanding
abbrev pub IsAlone : {D T B : Type 0} → DemiId B → List (CallerValue D T B) → Type 0
IsAlone {D} {T} {B} d cs = (c : CallerValue D T B) × (cs ≡ c ∷ []) × Owes d 0 [] c
