-- What a port with its passes at home is.
use Rattle.std.specs.Prelude.{◌≡◌, ℕ, ◌<◌, ◌≤◌, List, [], ◌∷◌, ◌++◌, length}
use mathlib.Core.Option.{some}
use lib.ListN.{get_elem?}
use Rattle.demi_port_core.specs.History.{Each, ground_of, of_pass, times, total}
use Rattle.demi_port_core.specs.Entries.{IsFetched, IsRedeemed}
use Rattle.demi_port_core.specs.Trails.{Behind}
use Rattle.demi_port.specs.Seen.{DeviceValue, EndValue, IsNewSeat, NewFrom, PassValue, PortId, known_at, known_by, says}

-- a port, the passes that no caller has, and how many there are in all
pub record LaneValue (D T B : Type 0) : Type 0 where
  pub port : PortId B
  pub home : List (PassValue D T B)
  pub callers : ℕ

abbrev pub port_of : {D T B : Type 0} → LaneValue D T B → PortId B
port_of l = l.port

-- all passes are with the callers, who are so many
abbrev pub IsEmpty : {D T B : Type 0} → ℕ → LaneValue D T B → Type 0
IsEmpty callers l = (l.home ≡ []) × (l.callers ≡ callers)

-- a lane of which so many passes are still at home, with the numbers from 0
abbrev pub HasLeft : {D T B : Type 0} → ℕ → LaneValue D T B → Type 0
HasLeft n l = (length l.home ≡ n) × NewFrom l.port 0 l.home

-- a new lane on a base, with so many tokens and passes, and the seat of its device
abbrev pub IsNewLane : {D T B : Type 0} → B → ℕ → ℕ → LaneValue D T B → DeviceValue D T B → Type 0
IsNewLane base tokens callers l s = (l.port.key.base ≡ base) × (l.port.tokens.slots ≡ tokens) × (l.callers ≡ callers) × HasLeft callers l × IsNewSeat l.port callers s

-- such lanes and seats, in the same order
abbrev pub AreNewLanes : {D T B : Type 0} → B → ℕ → ℕ → List (LaneValue D T B) → List (DeviceValue D T B) → Type 0
AreNewLanes base tokens callers [] [] = Unit {0}
AreNewLanes base tokens callers [] (s ∷ ss) = ⊥
AreNewLanes base tokens callers (l ∷ ls) [] = ⊥
AreNewLanes base tokens callers (l ∷ ls) (s ∷ ss) = IsNewLane base tokens callers l s × AreNewLanes base tokens callers ls ss

-- What the end of a port tells, of its device's seat and of its passes: each pass's operations at their places and no others; that each token was redeemed
-- once at most, at its operation's place; that each place was fetched once, so that what the device heard is all that the history says; and that what each pass
-- knew is a beginning of what the device knew.
pub record IsEndOf {D T B : Type 0} (port : PortId B) (seat : DeviceValue D T B) (passes : List (PassValue D T B)) (e : EndValue D T B) : Type 0 where
  pub base : e.base ≡ port.key.base
  pub passes_of : Each (λ (p : PassValue D T B). p.submitted ≡ of_pass p.number 0 e.history) passes
  pub entries : (p : ℕ) (x : ℕ × (ℕ × D)) → get_elem? e.history p ≡ some x → x.0 < seat.passes
  pub redeemed : Each (λ (p : PassValue D T B). Each (IsRedeemed e.history) p.redeemed) passes
  pub once : (t : ℕ) → total (λ (p : PassValue D T B). times t p.redeemed) passes ≤ 1
  pub trail : e.trail ≡ seat.trail
  pub fetched : Each (IsFetched e.history) seat.fetched
  pub counted : length seat.fetched ≡ length e.history
  pub grounded : ground_of seat.fetched ≡ says e.history
  pub heard : e.heard ≡ says e.history
  pub behind : Each (λ (p : PassValue D T B). Behind (known_at e) (known_by p)) passes

-- lanes that nobody has used, and the seats of their devices
abbrev pub AreUnused : {D T B : Type 0} → List (LaneValue D T B) → List (DeviceValue D T B) → Type 0
AreUnused [] [] = Unit {0}
AreUnused [] (s ∷ ss) = ⊥
AreUnused (l ∷ ls) [] = ⊥
AreUnused (l ∷ ls) (s ∷ ss) = IsNewSeat l.port l.callers s × HasLeft l.callers l × AreUnused ls ss

-- the same port, with as many passes in all
abbrev pub IsSame : {D T B : Type 0} → LaneValue D T B → LaneValue D T B → Type 0
IsSame l m = (m.port ≡ l.port) × (m.callers ≡ l.callers)

-- the same ports in order
abbrev pub AreSame : {D T B : Type 0} → List (LaneValue D T B) → List (LaneValue D T B) → Type 0
AreSame [] [] = Unit {0}
AreSame [] (m ∷ ms) = ⊥
AreSame (l ∷ ls) [] = ⊥
AreSame (l ∷ ls) (m ∷ ms) = IsSame l m × AreSame ls ms

-- the lane once these passes have come back as well
abbrev pub with_home : {D T B : Type 0} → LaneValue D T B → List (PassValue D T B) → LaneValue D T B
with_home l ps = record l { home = l.home ++ ps }
