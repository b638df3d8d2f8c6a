-- Texts that a getter of `clap` reads.
use Rattle.std.proofs.Common.{◌≡◌, [], option_map, Option, Some, None, refl}
use Rattle.std.specs.Prelude.{unwrap_or}
use Rattle.std.specs.Borrow.{Bor}
use Rattle.clap.specs.Words.{Text}

-- the text that is there, or none
pub text_or : (o : Option (Bor Text)) (other r : Bor Text) (x : Option Text) → r ≡ unwrap_or o other → option_map (λ s. s.now) o ≡ x
    → other.now ≡ [] → r.now ≡ unwrap_or x []
text_or None other r x is same empty = rw (is, ← same) empty
text_or (Some s) other r x is same empty = rw (is, ← same) refl
