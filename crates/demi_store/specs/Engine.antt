-- What a contract sees of the engine of the store.
use Rattle.std.specs.Prelude.{◌≡◌, ℕ, ◌+◌, Bool, List, [], ◌∷◌, ◌++◌, length, Option, refl}
use Rattle.std.proofs.Common.{subst}
use Rattle.demi_device.specs.Serving.{trail}
use Rattle.demi_logq.specs.Items.{tells}
use Rattle.demi_store.specs.declared.ask.StoreAsk.{StoreAsk}
use Rattle.demi_store.specs.declared.out.StoreOut.{StoreOut}
use Rattle.demi_store.specs.Cores.{Core}
use Rattle.demi_store.specs.History.{Standing, standing, struck_at}
use Rattle.demi_store.specs.Laws.{StoreBasis, told_of}
use Rattle.demi_store.specs.Serving.{Moves}

-- the engine: its store, what it stands on, and what it was served and what it finished
pub record EngineValue (D : Type 0) : Type 0 where
  pub core : Core D
  pub base : StoreBasis
  pub served : List StoreAsk
  pub finished : List (ℕ × StoreOut)

-- what an engine stands on, what it was served and what it finished
pub record PastValue : Type 0 where
  pub base : StoreBasis
  pub served : List StoreAsk
  pub finished : List (ℕ × StoreOut)

-- one outcome for each place, in order from i on
abbrev pub InOrder : ℕ → List (ℕ × StoreOut) → Type 0
InOrder i [] = Unit {0}
InOrder i (o ∷ os) = (o.0 ≡ i) × InOrder (i + 1) os

-- what stands behind a history with its outcomes
abbrev pub stood : StoreBasis → List StoreAsk → List (ℕ × StoreOut) → Standing
stood b h f = standing b.limit b.records (struck_at (trail told_of f)) h

-- each operation has its outcome
pub record IsServed (h : List StoreAsk) (f : List (ℕ × StoreOut)) : Type 0 where
  pub order : InOrder 0 f
  pub count : length f ≡ length h

-- what stands behind a past
abbrev pub stands_now : PastValue → Standing
stands_now v = stood v.base v.served v.finished

-- what an engine over this store stands on
abbrev pub basis_of : {D : Type 0} → (D → Option (List ℕ)) → Core D → StoreBasis
basis_of bytes core = record { records = core.records; limit = core.limit; told = tells (bytes core.log.disk) }

-- one operation was served, and this is its outcome
pub record Step {D : Type 0} (bytes : D → Option (List ℕ)) (held faults : D → ℕ) (appends : D → List ℕ → Bool → D → Type 0) (looks : D → D → Type 0) (a : EngineValue D) (ask : StoreAsk) (o : StoreOut) (b : EngineValue D) : Type 0 where
  pub base : b.base ≡ a.base
  pub served : b.served ≡ a.served ++ ask ∷ []
  pub finished : b.finished ≡ a.finished ++ (length a.served, o) ∷ []
  pub moves : Moves bytes held faults appends looks a.core.log b.core.log ask.op o

-- operations were served one after another, with these outcomes
abbrev pub Steps : {D : Type 0} → (D → Option (List ℕ)) → (D → ℕ) → (D → ℕ) → (D → List ℕ → Bool → D → Type 0) → (D → D → Type 0) → List (StoreAsk × StoreOut) → EngineValue D → EngineValue D → Type 0
Steps bytes held faults appends looks [] a c = c ≡ a
Steps {D} bytes held faults appends looks (x ∷ xs) a c = (b : EngineValue D) × Step bytes held faults appends looks a x.0 x.1 b × Steps bytes held faults appends looks xs b c

-- An engine has become another by serving operations and nothing else. Since each step serves one, what was served tells how many steps
-- there were.
abbrev pub GoesTo : {D : Type 0} → (D → Option (List ℕ)) → (D → ℕ) → (D → ℕ) → (D → List ℕ → Bool → D → Type 0) → (D → D → Type 0) → EngineValue D → EngineValue D → Type 0
GoesTo {D} bytes held faults appends looks a b = (xs : List (StoreAsk × StoreOut)) × Steps bytes held faults appends looks xs a b

module _ {D : Type 0} (bytes : D → Option (List ℕ)) (held faults : D → ℕ) (appends : D → List ℕ → Bool → D → Type 0) (looks : D → D → Type 0) where
  steps_on : (xs ys : List (StoreAsk × StoreOut)) (a b c : EngineValue D) → Steps bytes held faults appends looks xs a b → Steps bytes held faults appends looks ys b c → Steps bytes held faults appends looks (xs ++ ys) a c
  steps_on [] ys a b c p q = subst (λ (v : EngineValue D). Steps bytes held faults appends looks ys v c) p q
  steps_on (x ∷ xs) ys a b c p q = (p.0, p.1, steps_on xs ys p.0 b c p.2 q)

  pub goes_self : (a : EngineValue D) → GoesTo bytes held faults appends looks a a
  goes_self a = ([], refl)

  pub goes_on : (a b c : EngineValue D) → GoesTo bytes held faults appends looks a b → GoesTo bytes held faults appends looks b c → GoesTo bytes held faults appends looks a c
  goes_on a b c p q = (p.0 ++ q.0, steps_on p.0 q.0 a b c p.1 q.1)
