-- What a contract sees of the engine of a log's queue.
use Rattle.std.specs.Prelude.{◌≡◌, ℕ, ◌+◌, List, [], ◌∷◌, ◌++◌, length, replicate, Option, Some, None, Result, Ok, Err, refl}
use Rattle.std.proofs.Common.{◌∙◌, ap, sym}
use Rattle.demi_spec.specs.LogText.{entries}
use Rattle.demi_heap.specs.Seen.{HeapId, PassValue}
use Rattle.demi_device.specs.Serving.{trail}
use Rattle.demi_logq.specs.declared.op.LogOp.{LogOp}
use Rattle.demi_logq.specs.declared.out.LogOut.{LogOut}
use Rattle.demi_logq.specs.Logged.{Logged}
use Rattle.demi_logq.specs.Folding.{Standing, standing}
use Rattle.demi_logq.specs.Answers.{LogBasis, struck_at, told_by}
use Rattle.demi_logq.specs.Queues.{Moves}
use Rattle.std.specs.Prelude.{Bool, ◌-◌}
use Rattle.demi_logq.specs.Items.{tells}

-- the engine: its log, its heap pass, what it stands on, and what it was served and what it finished
pub record EngineValue (D : Type 0) : Type 0 where
  pub log : Logged D
  pub pass : PassValue
  pub base : LogBasis
  pub served : List LogOp
  pub finished : List (ℕ × LogOut)

-- what an engine stands on, what it was served and what it finished
pub record PastValue : Type 0 where
  pub base : LogBasis
  pub served : List LogOp
  pub finished : List (ℕ × LogOut)

-- one outcome for each place, in order from i on
abbrev pub InOrder : ℕ → List (ℕ × LogOut) → Type 0
InOrder i [] = Unit {0}
InOrder i (o ∷ os) = (o.0 ≡ i) × InOrder (i + 1) os

-- what stands behind a history with its outcomes
abbrev pub stood : LogBasis → List LogOp → List (ℕ × LogOut) → Standing
stood b h f = standing b.limit b.payloads (struck_at (trail told_by f)) h

-- each operation has its outcome
pub record IsServed (h : List LogOp) (f : List (ℕ × LogOut)) : Type 0 where
  pub order : InOrder 0 f
  pub count : length f ≡ length h

-- what stands behind a past
abbrev pub stands_now : PastValue → Standing
stands_now v = stood v.base v.served v.finished

-- payloads of the lengths that entries have that end there, of zeros, where the first begins at this place
abbrev pub blanks : ℕ → List ℕ → List (List ℕ)
blanks at [] = []
blanks at (end ∷ ends) = replicate (end - (at + 4)) 0 ∷ blanks end ends

abbrev pub read_of : Result (List (List ℕ)) ℕ → List (List ℕ)
read_of (Ok payloads) = payloads
read_of (Err at) = []

-- the payloads of a log: those that its disk's bytes spell, or where it does not tell them some of the right lengths
abbrev pub payloads_in : Option (List ℕ) → List ℕ → List (List ℕ)
payloads_in (Some bytes) ends = read_of (entries bytes)
payloads_in None ends = blanks 8 ends

-- what an engine over this log and heap stands on
abbrev pub basis_of : {D : Type 0} → (D → Option (List ℕ)) → Logged D → HeapId → LogBasis
basis_of bytes log heap = record { payloads = payloads_in (bytes log.disk) log.ends; limit = log.limit; heap = heap; told = tells (bytes log.disk) }

-- one operation was served, and this is its outcome
pub record Step {D : Type 0} (bytes : D → Option (List ℕ)) (held faults : D → ℕ) (appends : D → List ℕ → Bool → D → Type 0) (cuts : D → ℕ → Bool → D → Type 0) (looks : D → D → Type 0) (a : EngineValue D) (op : LogOp) (o : LogOut) (b : EngineValue D) : Type 0 where
  pub base : b.base ≡ a.base
  pub served : b.served ≡ a.served ++ op ∷ []
  pub finished : b.finished ≡ a.finished ++ (length a.served, o) ∷ []
  pub moves : Moves bytes held faults appends cuts looks (stood a.base a.served a.finished) a.log b.log a.pass b.pass op o

-- operations were served one after another, with these outcomes
abbrev pub Steps : {D : Type 0} → (D → Option (List ℕ)) → (D → ℕ) → (D → ℕ) → (D → List ℕ → Bool → D → Type 0) → (D → ℕ → Bool → D → Type 0) → (D → D → Type 0) → List (LogOp × LogOut) → EngineValue D → EngineValue D → Type 0
Steps bytes held faults appends cuts looks [] a c = c ≡ a
Steps {D} bytes held faults appends cuts looks (x ∷ xs) a c = (b : EngineValue D) × Step bytes held faults appends cuts looks a x.0 x.1 b × Steps bytes held faults appends cuts looks xs b c

-- An engine has become another by serving operations and nothing else. Since each step serves one, what was served tells how many steps
-- there were.
abbrev pub GoesTo : {D : Type 0} → (D → Option (List ℕ)) → (D → ℕ) → (D → ℕ) → (D → List ℕ → Bool → D → Type 0) → (D → ℕ → Bool → D → Type 0) → (D → D → Type 0) → EngineValue D → EngineValue D → Type 0
GoesTo {D} bytes held faults appends cuts looks a b = (xs : List (LogOp × LogOut)) × Steps bytes held faults appends cuts looks xs a b

module _ {D : Type 0} (bytes : D → Option (List ℕ)) (held faults : D → ℕ) (appends : D → List ℕ → Bool → D → Type 0) (cuts : D → ℕ → Bool → D → Type 0) (looks : D → D → Type 0) where
  steps_on : (xs ys : List (LogOp × LogOut)) (a b c : EngineValue D) → Steps bytes held faults appends cuts looks xs a b → Steps bytes held faults appends cuts looks ys b c → Steps bytes held faults appends cuts looks (xs ++ ys) a c
  steps_on [] ys a b c p q = subst_front p q
    where
      subst_front : b ≡ a → Steps bytes held faults appends cuts looks ys b c → Steps bytes held faults appends cuts looks ys a c
      subst_front e s = Rattle.std.proofs.Common.subst (λ (v : EngineValue D). Steps bytes held faults appends cuts looks ys v c) e s
  steps_on (x ∷ xs) ys a b c p q = (p.0, p.1, steps_on xs ys p.0 b c p.2 q)

  pub goes_self : (a : EngineValue D) → GoesTo bytes held faults appends cuts looks a a
  goes_self a = ([], refl)

  pub goes_on : (a b c : EngineValue D) → GoesTo bytes held faults appends cuts looks a b → GoesTo bytes held faults appends cuts looks b c → GoesTo bytes held faults appends cuts looks a c
  goes_on a b c p q = (p.0 ++ q.0, steps_on p.0 q.0 a b c p.1 q.1)
