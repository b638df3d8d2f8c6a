-- What a device holds of its port, and what is so between two of its calls.
use Rattle.std.specs.Prelude.{◌≡◌, ◌≢◌, ◌⊎◌, ℕ, ◌+◌, ◌%◌, ◌<◌, ◌≤◌, List, [], ◌∷◌, ◌++◌, length, slice_index_or, Option, Some, None, Bool, map}
use Rattle.demi_port.specs.Seen.{DeviceValue}
use Rattle.demi_port_core.specs.History.{Among, AnyOf, Apart, Each, ground_of}
use Rattle.demi_port_core.specs.Trails.{StartsWith}
use Rattle.demi_port_core.specs.Told.{clear}
use Rattle.demi_port_core.specs.declared.place.Place.{Place}
use Rattle.demi_port_core.specs.declared.place.Token.{Token}
use Rattle.demi_device.specs.declared.early.Early.{Early}
use Rattle.demi_device.specs.Serving.{AllAdmitted, EachMayPend, HasStop, NonePends, RiseFrom, places, trail}
use Rattle.demi_device.specs.Turning.{NoBell}
use Rattle.demi_port_core.specs.Words.{bells_word}

-- the port's seat, and how many operations were given to the engine
pub record InboxValue (D T B : Type 0) : Type 0 where
  pub seat : DeviceValue D T B
  pub given : ℕ

-- one operation of the token index i was fetched
abbrev pub OnlyFetched : {D T B : Type 0} → ℕ → DeviceValue D T B → DeviceValue D T B → Type 0
OnlyFetched {D} i v w = (x : ℕ × (ℕ × D)) × (w ≡ record v { rang = clear i v.rang; fetched = v.fetched ++ x ∷ [] })

-- nothing has changed but that further operations were fetched
abbrev pub FetchedMore : {D T B : Type 0} → DeviceValue D T B → DeviceValue D T B → Type 0
FetchedMore {D} v w = (more : List (ℕ × (ℕ × D))) × (w ≡ record v { rang = w.rang; fetched = v.fetched ++ more })

-- the doorbells were taken, and further operations were fetched
abbrev pub TookIn : {D T B : Type 0} → DeviceValue D T B → DeviceValue D T B → Type 0
TookIn {D} v w = (t : ℕ) × (n : ℕ) × (more : List (ℕ × (ℕ × D))) × (v.clock ≤ t) × (w ≡ record v { clock = t + 1; looks = v.looks ++ (t, (bells_word, n)) ∷ []; rang = w.rang; fetched = v.fetched ++ more })

-- the operation of the place p was finished, and `told` is what its outcome told
abbrev pub OnlyFinished : {D T B : Type 0} → ℕ → List (ℕ × T) → DeviceValue D T B → DeviceValue D T B → Type 0
OnlyFinished p told v w = (t : ℕ) × (w ≡ record v { finished = v.finished ++ (p, t) ∷ []; trail = v.trail ++ told; owes = w.owes })

-- x was taken out of the list
abbrev pub TakenOut : {A : Type 0} → List A → A → List A → Type 0
TakenOut {A} old x new = (a : List A) × (b : List A) × (old ≡ a ++ x ∷ b) × (new ≡ a ++ b)

-- each place below n is in the list
abbrev pub Covers : {A : Type 0} → ℕ → List (ℕ × A) → Type 0
Covers {A} n l = (p : ℕ) → p < n → AnyOf (λ (x : ℕ × A). x.0 ≡ p) l

-- the tokens by place, as numbers
abbrev pub by_number : List (Place × Token) → List (ℕ × ℕ)
by_number = map (λ y. (y.0.0, y.1.0))

-- e lies at i in a ring of c, where the first n places are gone
pub record Lies {O D : Type 0} (said : O → D) (proper : D → Type 0) (c n : ℕ) (fetched : List (ℕ × (ℕ × D))) (i : ℕ) (e : Early O) : Type 0 where
  pub there : e.place.0 % c ≡ i
  pub from : n ≤ e.place.0
  pub to : e.place.0 < n + c
  pub known : Among (e.place.0, (e.token.0, said e.op)) fetched
  pub is_proper : proper (said e.op)

-- an operation that was fetched is one of the first n places, or lies in a ring of c
abbrev pub IsKept : {O D : Type 0} → ℕ → ℕ → List (Option (Early O)) → ℕ × (ℕ × D) → Type 0
IsKept {O} c n ring x = (x.0 < n) ⊎ ((e : Early O) × (slice_index_or ring (x.0 % c) None ≡ Some e) × (e.place.0 ≡ x.0))

-- the token of an operation that was fetched, is one of the first n places, and is not finished
abbrev pub IsOpen : {D : Type 0} → ℕ → List (ℕ × (ℕ × D)) → List (ℕ × ℕ) → ℕ × ℕ → Type 0
IsOpen {D} n fetched finished y = (y.0 < n) × ((d : D) × Among (y.0, (y.1, d)) fetched) × Each (λ x. x.0 ≢ y.0) finished

-- Of the operations that were fetched those of the first n places were given to the engine, and the others lie in a ring of c.
-- The tokens of those that were given and not finished are at hand.
pub record Holds {O D : Type 0} (said : O → D) (proper : D → Type 0) (c n at early : ℕ) (ring : List (Option (Early O))) (unanswered : List (Place × Token)) (fetched : List (ℕ × (ℕ × D))) (finished : List (ℕ × ℕ)) : Type 0 where
  pub given : n ≡ length unanswered + length finished
  pub sized : length ring ≡ c
  pub at_next : at ≡ n % c
  pub held : length fetched ≡ n + early
  pub room : length fetched ≤ length finished + c
  pub lies : (i : ℕ) (e : Early O) → slice_index_or ring i None ≡ Some e → Lies said proper c n fetched i e
  pub kept : Each (IsKept c n ring) fetched
  pub gapless : Covers n fetched
  pub apart : Apart fetched
  pub low : Each (λ x. x.0 < n) finished
  pub once : Apart finished
  pub open_yet : Each (IsOpen n fetched finished) (by_number unanswered)
  pub open_apart : Apart (by_number unanswered)
  pub rest : (p : ℕ) → p < n → Each (λ x. x.0 ≢ p) finished → AnyOf (λ y. y.0.0 ≡ p) unanswered

-- The engine was served the port's history, operation by operation, and the seat finished what the engine finished, each once.
-- No doorbell that was taken is left, each operation that is not finished may pend, and none pends after a stop.
pub record Serves {D T U B : Type 0} (told : U → Option T) (admits : B → List D → List (ℕ × T) → ℕ → U → Type 0) (may_pend : List D → ℕ → Type 0) (stops : D → Bool) (base : B) (room given : ℕ) (served : List D) (finished : List (ℕ × U)) (seat : DeviceValue D T B) : Type 0 where
  pub same_base : base ≡ seat.port.key.base
  pub enough : seat.port.tokens.slots ≤ room
  pub all_given : given ≡ length served
  pub begins : StartsWith (ground_of seat.fetched) served
  pub same_places : places seat.finished ≡ places finished
  pub once : Apart seat.finished
  pub same_trail : seat.trail ≡ trail told finished
  pub rises : RiseFrom 0 (trail told finished)
  pub cleared : NoBell seat.port.tokens.slots seat.rang
  pub admitted : AllAdmitted (length served) (admits base served) (trail told finished) finished
  pub pends : EachMayPend (may_pend served) (length served) (places finished)
  pub ends : HasStop stops served → NonePends (length served) (places finished)
