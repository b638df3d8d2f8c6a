-- What a wait for all of some tokens tells.
use Rattle.std.specs.Prelude.{◌≡◌, ◌≢◌, ℕ, List, [], ◌∷◌, ◌++◌, length, Option, Some, None}
use Rattle.demi_port_core.specs.declared.place.Place.{Place}
use Rattle.demi_port_core.specs.declared.place.QToken.{QToken}
use Rattle.demi_pdpix.specs.declared.all.Halted.{Halted}
use Rattle.demi_pdpix.specs.declared.all.Halted.TheVariants.{NoTokens, Spent as SpentAt, Unknown as UnknownAt}
use Rattle.demi_pdpix.specs.declared.outcomes.QResult.{QResult}
use Rattle.demi_pdpix.specs.declared.outcomes.Answer.{Answer}
use Rattle.demi_pdpix.specs.declared.outcomes.Answer.TheVariants.{Ready, Spent, Unknown}
use Rattle.demi_pdpix.specs.Seen.{CallerValue, DemiId}
use Rattle.demi_pdpix.specs.Tries.{Waited}

-- the tokens were waited for in order, and each gave the result at its place
abbrev pub AllCame : {L P O S T B : Type 0} → (B → List S → List (ℕ × T) → ℕ → O → Type 0) → DemiId B → List QToken → List (Place × QResult L P O S T B) → CallerValue S T B → CallerValue S T B → Type 0
AllCame admits d [] [] c e = e ≡ c
AllCame admits d [] (r ∷ rs) c e = ⊥
AllCame admits d (t ∷ ts) [] c e = ⊥
AllCame {L} {P} {O} {S} {T} {B} admits d (t ∷ ts) (r ∷ rs) c e = (m : CallerValue S T B) × Waited admits d t c m (Ready r.0 r.1) × AllCame admits d ts rs m e

-- the tokens before the one of this index each gave a result, and the wait for it, the last, gave this answer
abbrev pub StoppedBy : {L P O S T B : Type 0} → (B → List S → List (ℕ × T) → ℕ → O → Type 0) → DemiId B → List QToken → List (Place × QResult L P O S T B) → CallerValue S T B → CallerValue S T B → ℕ → Answer L P O S T B → Type 0
StoppedBy {L} {P} {O} {S} {T} {B} admits d tokens results c e i answer =
    (before : List QToken) × (t : QToken) × (after : List QToken) × (m : CallerValue S T B) × (tokens ≡ before ++ t ∷ after) × (length before ≡ i) × AllCame admits d before results c m × Waited admits d t m e answer

-- what a wait for all of them tells, with these results and what ended it before its time
abbrev pub WaitedAll : {L P O S T B : Type 0} → (B → List S → List (ℕ × T) → ℕ → O → Type 0) → DemiId B → List QToken → CallerValue S T B → CallerValue S T B → List (Place × QResult L P O S T B) → Option Halted → Type 0
WaitedAll {L} {P} {O} {S} {T} {B} admits d tokens c e results None = (tokens ≢ []) × AllCame admits d tokens results c e
WaitedAll {L} {P} {O} {S} {T} {B} admits d tokens c e results (Some NoTokens) = (tokens ≡ []) × (results ≡ []) × (e ≡ c)
WaitedAll {L} {P} {O} {S} {T} {B} admits d tokens c e results (Some (SpentAt i)) = StoppedBy {L = L} {P = P} {O = O} {S = S} {T = T} {B = B} admits d tokens results c e i Spent
WaitedAll {L} {P} {O} {S} {T} {B} admits d tokens c e results (Some (UnknownAt i)) = StoppedBy {L = L} {P = P} {O = O} {S = S} {T = T} {B = B} admits d tokens results c e i Unknown
