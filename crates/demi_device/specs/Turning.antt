-- What contracts see of a device, and what a turn came to.
use Rattle.std.specs.Prelude.{◌≡◌, ℕ, ◌<◌, ◌≤◌, List, [], ◌∷◌, ◌++◌, Bool, Option, length}
use Rattle.std.specs.Int.{bit_at}
use Rattle.demi_port.specs.Seen.{DeviceValue}
use Rattle.demi_port_core.specs.History.{AnyOf, Apart, ground_of}
use Rattle.demi_port_core.specs.Trails.{StartsWith}
use Rattle.demi_device.specs.Serving.{AllAdmitted, HasStop, RiseFrom, places, trail}
use Rattle.demi_device.specs.declared.turn.Turn.{Turn}
use Rattle.demi_device.specs.declared.turn.Turn.TheVariants.{Served, Idle, Ended}
use Rattle.demi_port_core.specs.Words.{bells_word}

-- an engine, and the seat of its port's device
pub record WholeDevice (E D T B : Type 0) : Type 0 where
  pub engine : E
  pub seat : DeviceValue D T B

-- a seat that has taken, fetched and finished nothing
abbrev pub IsFresh : {D T B : Type 0} → DeviceValue D T B → Type 0
IsFresh s = (s.rang ≡ 0) × (s.fetched ≡ []) × (s.finished ≡ []) × (s.trail ≡ [])

-- no doorbell of the first c tokens is set in the word
abbrev pub NoBell : ℕ → ℕ → Type 0
NoBell c n = (i : ℕ) → i < c → i < 64 → bit_at n i ≡ 0

-- the last look of a call that brought the seat from v to w was at the doorbells, and F holds of what it found there
abbrev pub LastFound : {D T B : Type 0} → DeviceValue D T B → DeviceValue D T B → (ℕ → Type 0) → Type 0
LastFound v w F = (before : List (ℕ × (ℕ × ℕ))) × (t : ℕ) × (n : ℕ) × (v.clock ≤ t) × (w.looks ≡ before ++ (t, (bells_word, n)) ∷ []) × F n

-- it looked at the doorbells in that call
abbrev pub LookedLast : {D T B : Type 0} → DeviceValue D T B → DeviceValue D T B → Type 0
LookedLast v w = LastFound v w (λ _. Unit {0})

-- at its last look no doorbell of a token was set
abbrev pub WasQuiet : {D T B : Type 0} → DeviceValue D T B → DeviceValue D T B → Type 0
WasQuiet v w = LastFound v w (NoBell v.port.tokens.slots)

-- the operation of the place p was fetched
abbrev pub IsAtHand : {D T B : Type 0} → ℕ → DeviceValue D T B → Type 0
IsAtHand p s = AnyOf (λ x. x.0 ≡ p) s.fetched

-- n further operations were served
abbrev pub GoesOn : {D : Type 0} → ℕ → List D → List D → Type 0
GoesOn {D} n old new = (more : List D) × (new ≡ old ++ more) × (length more ≡ n)

-- a stop was served, and each operation that was fetched was served
abbrev pub IsOver : {D T B : Type 0} → (D → Bool) → List D → DeviceValue D T B → Type 0
IsOver stops served s = HasStop stops served × (length s.fetched ≡ length served)

-- What the engine and the seat tell of one service: the engine was served operations that the seat fetched, by their places without
-- a gap; the seat finished what the engine finished, each once; each outcome is of an operation that was served, and is admitted by
-- all that was served and told; and what was told is of rising places.
pub record Agrees {D T U B : Type 0} (told : U → Option T) (admits : List D → List (ℕ × T) → ℕ → U → Type 0) (served : List D) (finished : List (ℕ × U)) (seat : DeviceValue D T B) : Type 0 where
  pub begins : StartsWith (ground_of seat.fetched) served
  pub finishes : places seat.finished ≡ places finished
  pub once : Apart seat.finished
  pub admitted : AllAdmitted (length served) (admits served) (trail told finished) finished
  pub tells : seat.trail ≡ trail told finished
  pub rises : RiseFrom 0 seat.trail

-- Between v and w nothing was taken back: what the engine finished, and what the seat looked at, fetched, finished and told, has
-- grown at its end.
pub record Grows {D T U B : Type 0} (before after : List (ℕ × U)) (v w : DeviceValue D T B) : Type 0 where
  pub clock : v.clock ≤ w.clock
  pub looks : StartsWith w.looks v.looks
  pub fetched : StartsWith w.fetched v.fetched
  pub outcomes : StartsWith after before
  pub finished : StartsWith w.finished v.finished
  pub trail : StartsWith w.trail v.trail

-- how many operations were served
abbrev pub served_by : Turn → ℕ
served_by (Served n) = n
served_by Idle = 0
served_by Ended = 0

abbrev pub IfServed : Turn → (ℕ → Type 0) → Type 0
IfServed (Served n) F = F n
IfServed Idle F = Unit {0}
IfServed Ended F = Unit {0}

abbrev pub IfIdle : Turn → Type 0 → Type 0
IfIdle (Served n) F = Unit {0}
IfIdle Idle F = F
IfIdle Ended F = Unit {0}

abbrev pub IfEnded : Turn → Type 0 → Type 0
IfEnded (Served n) F = Unit {0}
IfEnded Idle F = Unit {0}
IfEnded Ended F = F
