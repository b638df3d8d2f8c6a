-- A row of at most eight pieces, as a list.
use Rattle.std.specs.Prelude.{List, [], ◌∷◌}
use Rattle.demi_sga.specs.declared.row.Row.{Row}
use Rattle.demi_sga.specs.declared.row.Row.TheVariants.{Empty, One, Two, Three, Four, Five, Six, Seven, Eight}

-- the pieces in order
abbrev pub items : {T : Type 0} → Row T → List T
items Empty = []
items (One a) = a ∷ []
items (Two a b) = a ∷ b ∷ []
items (Three a b c) = a ∷ b ∷ c ∷ []
items (Four a b c d) = a ∷ b ∷ c ∷ d ∷ []
items (Five a b c d e) = a ∷ b ∷ c ∷ d ∷ e ∷ []
items (Six a b c d e f) = a ∷ b ∷ c ∷ d ∷ e ∷ f ∷ []
items (Seven a b c d e f g) = a ∷ b ∷ c ∷ d ∷ e ∷ f ∷ g ∷ []
items (Eight a b c d e f g h) = a ∷ b ∷ c ∷ d ∷ e ∷ f ∷ g ∷ h ∷ []
