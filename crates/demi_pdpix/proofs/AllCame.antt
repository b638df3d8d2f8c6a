-- Waits that each gave a result.
use Rattle.std.proofs.Common.{◌≡◌, ℕ, ◌+◌, ◌<◌, List, [], ◌∷◌, ◌++◌, length, length-append, get_or, refl, ap, sym, subst, ◌∙◌, append_assoc, arith}
use Rattle.demi_port_core.specs.declared.place.Place.{Place}
use Rattle.demi_port_core.specs.declared.place.QToken.{QToken}
use Rattle.demi_pdpix.specs.declared.outcomes.QResult.{QResult}
use Rattle.demi_pdpix.specs.declared.outcomes.Answer.{Answer}
use Rattle.demi_pdpix.specs.declared.outcomes.Answer.TheVariants.{Ready}
use Rattle.demi_pdpix.specs.Seen.{CallerValue, DemiId}
use Rattle.demi_pdpix.specs.Together.{AllCame, StoppedBy}
use Rattle.demi_pdpix.specs.Tries.{Waited}
use Rattle.demi_pdpix.proofs.Columns.{same_there}
use Rattle.demi_pdpix.proofs.StillBusy.{split_next}

module _ {L P O S T B : Type 0} (admits : B → List S → List (ℕ × T) → ℕ → O → Type 0) (d : DemiId B) where
  pub came_snoc : (before : List QToken) (rs : List (Place × QResult L P O S T B)) (t : QToken) (r : Place × QResult L P O S T B) (c m e : CallerValue S T B)
      → AllCame admits d before rs c m → Waited admits d t m e (Ready r.0 r.1) → AllCame admits d (before ++ t ∷ []) (rs ++ r ∷ []) c e
  came_snoc [] [] t r c m e came waited = (e, subst (λ (z : CallerValue S T B). Waited admits d t z e (Ready r.0 r.1)) came waited, refl)
  came_snoc [] (x ∷ rs) t r c m e came waited = absurd came
  came_snoc (x ∷ xs) [] t r c m e came waited = absurd came
  came_snoc (x ∷ xs) (y ∷ rs) t r c m e came waited = (came.0, came.1, came_snoc xs rs t r came.0 m e came.2 waited)

  -- one result more
  pub one_came : (tokens before after : List QToken) (i : ℕ) (x : QToken) (rs : List (Place × QResult L P O S T B)) (r : Place × QResult L P O S T B) (first c e : CallerValue S T B)
      → tokens ≡ before ++ after → length before ≡ i → i < length tokens → AllCame admits d before rs first c → Waited admits d (get_or tokens i x) c e (Ready r.0 r.1)
      → (more : List QToken) × (rest : List QToken) × (tokens ≡ more ++ rest) × (length more ≡ i + 1) × AllCame admits d more (rs ++ r ∷ []) first e
  one_came tokens before after i x rs r first c e is many low came waited =
      let t = get_or tokens i x in let s = split_next tokens before after i t is many low (same_there tokens i x t low) in let f = length-append before (t ∷ []) in
      (before ++ t ∷ [], s.0, is ∙ ap (λ l. before ++ l) s.1 ∙ sym (append_assoc before (t ∷ []) s.0), omega (arith, f, many), came_snoc before rs t r first c e came waited)

  -- the waits ended here
  pub one_halt : (tokens before after : List QToken) (i : ℕ) (x : QToken) (rs : List (Place × QResult L P O S T B)) (first c e : CallerValue S T B) (answer : Answer L P O S T B)
      → tokens ≡ before ++ after → length before ≡ i → i < length tokens → AllCame admits d before rs first c → Waited admits d (get_or tokens i x) c e answer
      → StoppedBy admits d tokens rs first e i answer
  one_halt tokens before after i x rs first c e answer is many low came waited =
      let t = get_or tokens i x in let s = split_next tokens before after i t is many low (same_there tokens i x t low) in
      (before, t, s.0, c, is ∙ ap (λ l. before ++ l) s.1, many, came, waited)
