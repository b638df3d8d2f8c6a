-- What a command said of a text.
use Rattle.std.specs.Prelude.{◌≡◌, List, ℕ, ◌++◌}
use Rattle.demi_core.specs.World.{WorldState, after_say}

-- of this text all was said but this end, and the world is otherwise as it was
pub record SaidBut (rest text : List ℕ) (old new : WorldState) : Type 0 where
  pub front : List ℕ
  pub parts : text ≡ front ++ rest
  pub says : new ≡ after_say old front

-- a front of this text was said, and the world is otherwise as it was
abbrev pub SaidFront : List ℕ → WorldState → WorldState → Type 0
SaidFront text old new = (rest : List ℕ) × SaidBut rest text old new
