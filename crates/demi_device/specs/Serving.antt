-- What an engine does with the operations that it is served.
use Rattle.std.specs.Prelude.{◌≢◌, ℕ, ◌+◌, ◌<◌, ◌≤◌, List, [], ◌∷◌, ◌++◌, Option, Some, None, Bool, cond, map, max}
use Rattle.demi_port_core.specs.History.{Each}
use Rattle.demi_port_core.specs.Trails.{MayTell, told_at}
use Rattle.demi_port_core.specs.declared.place.Place.{Place}

-- what was added to a room for outcomes, and how many it is for
pub record DoneValue (U : Type 0) : Type 0 where
  pub room : ℕ
  pub added : List (ℕ × U)

-- the outcomes with the numbers of their places
abbrev pub by_place : {U : Type 0} → List (Place × U) → List (ℕ × U)
by_place = map (λ o. (o.0.0, o.1))

-- the places of a list
abbrev pub places : {A : Type 0} → List (ℕ × A) → List ℕ
places = map (λ x. x.0)

-- what outcomes told, with their places
abbrev pub trail : {T U : Type 0} → (U → Option T) → List (ℕ × U) → List (ℕ × T)
trail told [] = []
trail told (o ∷ os) = told_at o.0 (told o.1) ++ trail told os

-- the places rise, from n on
abbrev pub RiseFrom : {T : Type 0} → ℕ → List (ℕ × T) → Type 0
RiseFrom n [] = Unit {0}
RiseFrom n (t ∷ ts) = (n ≤ t.0) × RiseFrom (t.0 + 1) ts

-- one more than the greatest of the places
abbrev pub above : List ℕ → ℕ
above [] = 0
above (p ∷ ps) = max (p + 1) (above ps)

-- The outcome o of one of n operations, after what the outcomes of the places `before` told: its operation was not finished,
-- where it tells something no greater place was, and it is admitted by what was told with what it tells
pub record Comes {T U : Type 0} (n : ℕ) (told : U → Option T) (admits : List (ℕ × T) → ℕ → U → Type 0) (t : List (ℕ × T)) (before : List ℕ) (o : ℕ × U) : Type 0 where
  pub served : o.0 < n
  pub open_yet : Each (λ p. p ≢ o.0) before
  pub may_tell : MayTell (above before) o.0 (told o.1)
  pub admitted : admits (t ++ told_at o.0 (told o.1)) o.0 o.1

-- each outcome so comes after those before it
abbrev pub AllCome : {T U : Type 0} → ℕ → (U → Option T) → (List (ℕ × T) → ℕ → U → Type 0) → List (ℕ × T) → List ℕ → List (ℕ × U) → Type 0
AllCome n told admits t before [] = Unit {0}
AllCome n told admits t before (o ∷ os) = Comes n told admits t before o × AllCome n told admits (t ++ told_at o.0 (told o.1)) (before ++ o.0 ∷ []) os

-- each outcome is of one of n operations, and is admitted by what was told
abbrev pub AllAdmitted : {T U : Type 0} → ℕ → (List (ℕ × T) → ℕ → U → Type 0) → List (ℕ × T) → List (ℕ × U) → Type 0
AllAdmitted {T} {U} n admits t l = Each (λ (o : ℕ × U). (o.0 < n) × admits t o.0 o.1) l

-- each of n operations that is not finished may pend
abbrev pub EachMayPend : (ℕ → Type 0) → ℕ → List ℕ → Type 0
EachMayPend may n finished = (p : ℕ) → p < n → Each (λ q. q ≢ p) finished → may p

-- each of n operations is finished
abbrev pub NonePends : ℕ → List ℕ → Type 0
NonePends n finished = (p : ℕ) → p < n → Each (λ q. q ≢ p) finished → ⊥

-- the place of the first stop, where the first operation is at the place p
abbrev pub first_stop : {D : Type 0} → (D → Bool) → ℕ → List D → Option ℕ
first_stop stops p [] = None
first_stop stops p (d ∷ ds) = cond (stops d) (Some p) (first_stop stops (p + 1) ds)

-- one of these is a stop
abbrev pub HasStop : {D : Type 0} → (D → Bool) → List D → Type 0
HasStop stops ds = first_stop stops 0 ds ≢ None
