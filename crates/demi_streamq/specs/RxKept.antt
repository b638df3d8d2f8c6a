-- What a receiving engine keeps beside its source.
use Rattle.std.specs.Prelude.{◌≡◌, ℕ, ◌+◌, List, [], ◌∷◌, ◌++◌, length, Option, Some, None, Bool, true, false, ◌⊎◌, IfSome}
use Rattle.demi_port_core.specs.declared.place.Place.{Place}
use Rattle.demi_device.specs.Serving.{first_stop, trail}
use Rattle.demi_streamq.specs.declared.rx_op.RxOp.{RxOp}
use Rattle.demi_streamq.specs.declared.rx_out.RxOut.{RxOut}
use Rattle.demi_streamq.specs.declared.rx_out.RxOut.TheVariants.{Piece, End, Fault, Broken, NoSlot, Stopped, Halted}
use Rattle.demi_streamq.specs.Receiving.{is_stop, told, over, bytes_before, RxAdmits}

-- one outcome for each place, in order from k
abbrev pub InOrder : {U : Type 0} → ℕ → List (ℕ × U) → Type 0
InOrder k [] = Unit {0}
InOrder k (o ∷ os) = (o.0 ≡ k) × InOrder (k + 1) os

-- what pops find over already, as the engine remembers it
abbrev pub over_of : Bool → Option Place → Option RxOut
over_of true broken = Some End
over_of false None = None
over_of false (Some at) = Some (Broken at)

-- each operation has its outcome, and what the engine remembers is what the outcomes told
pub record RxKept (h : List RxOp) (f : List (ℕ × RxOut)) (at_end : Bool) (broken : Option Place) (stop : Option ℕ) (taken : ℕ) : Type 0 where
  pub order : InOrder 0 f
  pub count : length f ≡ length h
  pub found : over (length h) (trail told f) ≡ over_of at_end broken
  pub stop_is : stop ≡ first_stop is_stop 0 h
  pub taken_is : taken ≡ length (bytes_before (length h) (trail told f))

-- the bytes of an outcome
abbrev pub bytes_of : RxOut → List ℕ
bytes_of (Piece v) = v.bytes
bytes_of End = []
bytes_of (Fault k) = []
bytes_of (Broken q) = []
bytes_of NoSlot = []
bytes_of (Stopped s) = []
bytes_of Halted = []

-- the bytes of outcomes, in their order
abbrev pub all_bytes : List (ℕ × RxOut) → List ℕ
all_bytes [] = []
all_bytes (o ∷ os) = bytes_of o.1 ++ all_bytes os

-- the buffers that an outcome gives
abbrev pub pieces_of : RxOut → ℕ
pieces_of (Piece v) = 1
pieces_of End = 0
pieces_of (Fault k) = 0
pieces_of (Broken q) = 0
pieces_of NoSlot = 0
pieces_of (Stopped s) = 0
pieces_of Halted = 0

-- the buffers that outcomes give
abbrev pub all_pieces : List (ℕ × RxOut) → ℕ
all_pieces [] = 0
all_pieces (o ∷ os) = pieces_of o.1 + all_pieces os

-- it is a fault
abbrev pub IsFault : RxOut → Type 0
IsFault (Fault k) = Unit {0}
IsFault (Piece v) = ⊥
IsFault End = ⊥
IsFault (Broken q) = ⊥
IsFault NoSlot = ⊥
IsFault (Stopped s) = ⊥
IsFault Halted = ⊥

-- one is a fault
abbrev pub HasFault : List (ℕ × RxOut) → Type 0
HasFault [] = ⊥
HasFault (o ∷ os) = IsFault o.1 ⊎ HasFault os

-- it is an end
abbrev pub IsEnd : RxOut → Type 0
IsEnd End = Unit {0}
IsEnd (Piece v) = ⊥
IsEnd (Fault k) = ⊥
IsEnd (Broken q) = ⊥
IsEnd NoSlot = ⊥
IsEnd (Stopped s) = ⊥
IsEnd Halted = ⊥

-- one is an end
abbrev pub HasEnd : List (ℕ × RxOut) → Type 0
HasEnd [] = ⊥
HasEnd (o ∷ os) = IsEnd o.1 ⊎ HasEnd os

-- whether an end was told, once this outcome is too
abbrev pub ended_after : Bool → RxOut → Bool
ended_after ended End = true
ended_after ended (Piece v) = ended
ended_after ended (Fault k) = ended
ended_after ended (Broken q) = ended
ended_after ended NoSlot = ended
ended_after ended (Stopped s) = ended
ended_after ended Halted = ended

-- whether an end was told, once these are
abbrev pub ended_in : Bool → List (ℕ × RxOut) → Bool
ended_in ended [] = ended
ended_in ended (o ∷ os) = ended_in (ended_after ended o.1) os

-- where it is told, nothing is left
abbrev pub NoneLeft : Option (List ℕ) → Type 0
NoneLeft left = IfSome left (λ bytes. bytes ≡ [])

-- the outcome of the operation is admitted with it
abbrev pub RxServes : List RxOp → List (ℕ × RxOut) → RxOp → ℕ → RxOut → Type 0
RxServes h f op p o = RxAdmits (h ++ op ∷ []) (trail told (f ++ (p, o) ∷ [])) p o
