-- How the passes of the callers come back to their ports.
use Rattle.std.specs.Prelude.{◌≡◌, ℕ, ◌<◌, ◌≤◌, List, [], length, map, slice_index_or}
use Rattle.demi_port.specs.Seen.{PassValue}
use Rattle.demi_pdpix.specs.Lanes.{LaneValue, with_home}
use Rattle.demi_pdpix.specs.Seen.{CallerValue, LogPass, RxPass, TxPass}

-- the pass that a caller has of the port for a log
abbrev pub journal_at : {D T B : Type 0} → ℕ → LogPass → CallerValue D T B → LogPass
journal_at k p c = slice_index_or c.journal k p

-- the pass that a caller has of the port that receives from link k
abbrev pub rx_at : {D T B : Type 0} → ℕ → RxPass → CallerValue D T B → RxPass
rx_at k p c = slice_index_or c.rx k p

-- the pass that a caller has of the port that sends to link k
abbrev pub tx_at : {D T B : Type 0} → ℕ → TxPass → CallerValue D T B → TxPass
tx_at k p c = slice_index_or c.tx k p

-- to each of these ports its passes have come back, in the order of the callers, of which f k gives the pass of the port k
abbrev pub HasReturned : {A D T B : Type 0} → (ℕ → PassValue D T B → A → PassValue D T B) → List (LaneValue D T B) → List A → List (LaneValue D T B) → Type 0
HasReturned {A} {D} {T} {B} f old callers new = (k : ℕ) (l : LaneValue D T B) (p : PassValue D T B) → k < length old → slice_index_or new k l ≡ with_home (slice_index_or old k l) (map (f k p) callers)

-- each of these ports has room for so many passes, and none at home
abbrev pub HasRoom : {D T B : Type 0} → ℕ → List (LaneValue D T B) → Type 0
HasRoom {D} {T} {B} n lanes = (k : ℕ) (l : LaneValue D T B) → k < length lanes → ((slice_index_or lanes k l).home ≡ []) × (n ≤ (slice_index_or lanes k l).callers)

-- the caller has so many passes of ports for a log, that receive and that send
pub record IsAsWide {D T B : Type 0} (journals receiving sending : ℕ) (c : CallerValue D T B) : Type 0 where
  pub journal : length c.journal ≡ journals
  pub rx : length c.rx ≡ receiving
  pub tx : length c.tx ≡ sending
