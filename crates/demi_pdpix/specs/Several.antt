-- What tries of several tokens tell.
use Rattle.std.specs.Prelude.{◌≡◌, ◌≢◌, ℕ, zero, suc, List, [], ◌∷◌, ◌++◌, length}
use Rattle.demi_port_core.specs.declared.place.QToken.{QToken}
use Rattle.demi_pdpix.specs.declared.outcomes.Answer.{Answer}
use Rattle.demi_pdpix.specs.declared.outcomes.Answer.TheVariants.{Ready as Got, NotYet as Busy, Spent as Over, Unknown as NoSuch}
use Rattle.demi_pdpix.specs.declared.outcomes.Any.{Any}
use Rattle.demi_pdpix.specs.declared.outcomes.Any.TheVariants.{NoTokens, Ready, NotYet, Spent, Unknown}
use Rattle.demi_pdpix.specs.Seen.{CallerValue, DemiId}
use Rattle.demi_pdpix.specs.Tries.{AllBusy, Tried}

-- the tokens before the one of this index were each still to come, and its try, the last, gave this answer
abbrev pub StoppedAt : {L P O S T B : Type 0} → (B → List S → List (ℕ × T) → ℕ → O → Type 0) → DemiId B → List QToken → CallerValue S T B → CallerValue S T B → ℕ → Answer L P O S T B → Type 0
StoppedAt {S = S} {T = T} {B = B} admits d tokens c e i answer =
    (before : List QToken) × (t : QToken) × (after : List QToken) × (m : CallerValue S T B) × (tokens ≡ before ++ t ∷ after) × (length before ≡ i) × AllBusy d before c m × Tried admits d t m e answer

-- What one try of each token in order tells, that stopped at the first that was not still to come.
abbrev pub TriedAny : {L P O S T B : Type 0} → (B → List S → List (ℕ × T) → ℕ → O → Type 0) → DemiId B → List QToken → CallerValue S T B → CallerValue S T B → Any L P O S T B → Type 0
TriedAny {L} {P} {O} {S} {T} {B} admits d tokens c e NoTokens = (tokens ≡ []) × (e ≡ c)
TriedAny {L} {P} {O} {S} {T} {B} admits d tokens c e (Ready i place came) = StoppedAt {L = L} {P = P} {O = O} {S = S} {T = T} {B = B} admits d tokens c e i (Got place came)
TriedAny {L} {P} {O} {S} {T} {B} admits d tokens c e NotYet = (tokens ≢ []) × AllBusy d tokens c e
TriedAny {L} {P} {O} {S} {T} {B} admits d tokens c e (Spent i) = StoppedAt {L = L} {P = P} {O = O} {S = S} {T = T} {B = B} admits d tokens c e i Over
TriedAny {L} {P} {O} {S} {T} {B} admits d tokens c e (Unknown i) = StoppedAt {L = L} {P = P} {O = O} {S = S} {T = T} {B = B} admits d tokens c e i NoSuch

-- the tokens, so many times over
abbrev pub rounds : ℕ → List QToken → List QToken
rounds zero tokens = []
rounds (suc n) tokens = tokens ++ rounds n tokens

-- in so many rounds each token was still to come, and one round more gave this answer, which is another
abbrev pub WaitedAny : {L P O S T B : Type 0} → (B → List S → List (ℕ × T) → ℕ → O → Type 0) → DemiId B → List QToken → CallerValue S T B → CallerValue S T B → Any L P O S T B → Type 0
WaitedAny {S = S} {T = T} {B = B} admits d tokens c e answer = (n : ℕ) × (m : CallerValue S T B) × AllBusy d (rounds n tokens) c m × TriedAny admits d tokens m e answer × (answer ≢ NotYet)

-- the answer of the token with this index
abbrev pub any_of : {L P O S T B : Type 0} → ℕ → Answer L P O S T B → Any L P O S T B
any_of i (Got place came) = Ready i place came
any_of i Busy = NotYet
any_of i Over = Spent i
any_of i NoSuch = Unknown i
