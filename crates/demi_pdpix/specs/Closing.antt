-- What the end of the whole needs and tells.
use Rattle.std.specs.Prelude.{◌≡◌, ℕ, ◌<◌, List, [], ◌∷◌, ◌++◌, length, map, slice_index_or}
use Rattle.demi_heap.specs.Seen.{PassValue as HeapPassValue}
use Rattle.demi_port_core.specs.History.{AnyOf, Each, total}
use Rattle.demi_port.specs.Seen.{DeviceValue, EndValue, PassValue, PortId}
use Rattle.demi_pdpix.specs.Lanes.{IsEndOf, LaneValue}
use Rattle.demi_pdpix.specs.Seen.{CallerValue, LogPair, Pair, RxPair, TxPair, heap_of}

-- The seat is that of the port's device, the callers have among them each pass of the port, which f gives, and each operation that they submitted to it
-- was redeemed.
pub record AllBack {A D T B : Type 0} (f : A → PassValue D T B) (callers : List A) (port : PortId B) (s : DeviceValue D T B) : Type 0 where
  pub seat : s.port ≡ port
  pub all : (n : ℕ) → n < s.passes → AnyOf (λ (c : A). (f c).number ≡ n) callers
  pub even : total (λ (c : A). length (f c).submitted) callers ≡ total (λ (c : A). length (f c).redeemed) callers

-- the same of each of these ports, of which f k gives the passes of the port k
abbrev pub AllBackAt : {A D T B : Type 0} → (ℕ → PassValue D T B → A → PassValue D T B) → List A → List (PortId B) → List (Pair D T B) → Type 0
AllBackAt {A} {D} {T} {B} f callers ports seats = (k : ℕ) (p : PassValue D T B) (x : PortId B) (s : Pair D T B) → k < length ports → AllBack (f k p) callers (slice_index_or ports k x) (slice_index_or seats k s).0

-- these are the ends of these ports, in order
pub record AreEndsOf {A D T B : Type 0} (f : ℕ → PassValue D T B → A → PassValue D T B) (callers : List A) (ports : List (PortId B)) (seats : List (Pair D T B)) (ends : List (EndValue D T B)) : Type 0 where
  pub many : length ends ≡ length ports
  pub each : (k : ℕ) (p : PassValue D T B) (x : PortId B) (s : Pair D T B) (e : EndValue D T B) → k < length ports → IsEndOf (slice_index_or ports k x) (slice_index_or seats k s).0 (map (f k p) callers) (slice_index_or ends k e)

-- a lane that can be closed
pub record IsReady {D T B : Type 0} (l : LaneValue D T B) (s : DeviceValue D T B) : Type 0 where
  pub port : (s.port ≡ l.port) × Each (λ (p : PassValue D T B). p.port ≡ l.port) l.home
  pub all : (n : ℕ) → n < s.passes → AnyOf (λ (p : PassValue D T B). p.number ≡ n) l.home
  pub even : total (λ (p : PassValue D T B). length p.submitted) l.home ≡ total (λ (p : PassValue D T B). length p.redeemed) l.home

-- each of these can be closed with its seat
abbrev pub AreReady : {D T B : Type 0} → List (LaneValue D T B) → List (Pair D T B) → Type 0
AreReady {D} {T} {B} lanes seats = (k : ℕ) (l : LaneValue D T B) (s : Pair D T B) → k < length lanes → IsReady (slice_index_or lanes k l) (slice_index_or seats k s).0

-- the heap pass beside a seat
abbrev pub beside : {D T B : Type 0} → Pair D T B → HeapPassValue
beside s = s.1

-- all passes of the heap: the callers', and those of the devices
abbrev pub heap_passes : {E U C : Type 0} → List (CallerValue E U C) → HeapPassValue → HeapPassValue → List LogPair → List RxPair → List TxPair → List HeapPassValue
heap_passes callers memory service journal rx tx = map heap_of callers ++ memory ∷ service ∷ map beside journal ++ map beside rx ++ map beside tx

-- these are the ends of these lanes, with these seats, in the same order
abbrev pub AllEnds : {D T B : Type 0} → List (LaneValue D T B) → List (Pair D T B) → List (EndValue D T B) → Type 0
AllEnds [] [] [] = Unit {0}
AllEnds [] [] (e ∷ es) = ⊥
AllEnds [] (s ∷ ss) es = ⊥
AllEnds (l ∷ ls) [] es = ⊥
AllEnds (l ∷ ls) (s ∷ ss) [] = ⊥
AllEnds (l ∷ ls) (s ∷ ss) (e ∷ es) = IsEndOf l.port s.0 l.home e × AllEnds ls ss es
