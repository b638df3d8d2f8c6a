-- How the superblocks of a heap lie in its slots.
use Rattle.std.specs.Prelude.{◌≡◌, ℕ, ◌+◌, ◌<◌, ◌≤◌, Bool, false, eqb, cond, List, [], length, Option, Some, slice_index_or, sum_by}
use mathlib.Core.Option.{some}
use lib.ListN.{get_elem?}
use Rattle.std.specs.Slots.Ownership.{Filled}
use Rattle.demi_buf.specs.Bufs.{BufValue, carved}
use Rattle.demi_buf.specs.declared.class.Class.{Class}
use Rattle.demi_heap_core.specs.declared.shape.Shape.{Shape}
use Rattle.demi_heap_core.specs.declared.shape.Superblock.{Superblock}
use Rattle.demi_heap_core.specs.declared.view.View.{View}
use Rattle.demi_heap_core.specs.Owner.{total, OwnerState}
use Rattle.demi_heap_core.specs.Steps.{Stands}
use Rattle.demi_heap_core.specs.Schedule.{Reached}
use Rattle.demi_heap.specs.declared.counts.Counts.{Counts}
use Rattle.demi_heap.specs.Rule.{class_at, lies_in, Fits, IsAt}
use Rattle.demi_heap.specs.Seen.{PassValue, claims, ends, loans, returns}

-- how many slots a superblock takes up
abbrev pub places : Superblock → ℕ
places r = r.count

-- the shape of a heap with these counts, before its passes and superblocks are known
abbrev pub counts_shape : Counts → Shape
counts_shape c = record { small = c.small; page = c.page; large = c.large; passes = 0; blocks = [] }

-- these are the buffers of a new superblock of this place
abbrev pub IsNewBlock : ℕ → List BufValue → Class → Type 0
IsNewBlock block bufs c = bufs ≡ carved block c (length bufs) (length bufs)

-- each slot of the row has a buffer, which lies there in its superblock
pub record EachLies (rs : List Superblock) (row : List (Option BufValue)) : Type 0 where
  pub at : (k : ℕ) → k < length row → (b : BufValue) × (get_elem? row k ≡ some (Some b)) × IsAt (lies_in rs k) b

-- the row has the buffers of these superblocks, and no others
pub record IsLaid (rs : List Superblock) (row : List (Option BufValue)) : Type 0 where
  pub wide : length row ≡ total places rs
  pub each : EachLies rs row

-- each buffer is of its slot's class
pub record HasClasses (h : Shape) (row : List (Option BufValue)) : Type 0 where
  pub of : (k : ℕ) (b : BufValue) → get_elem? row k ≡ some (Some b) → b.class ≡ class_at h k

-- buffers of this superblock, in the order of their numbers from 0
pub record IsFront (r : Superblock) (bufs : List BufValue) : Type 0 where
  pub at : (j : ℕ) (b : BufValue) → get_elem? bufs j ≡ some b → (b.block ≡ r.place) × (b.count ≡ r.count) × (b.slot ≡ j)

-- of the `len` slots those below n have their values, and the others are taken out
pub record IsTakenFrom (filled : List Bool) (len n : ℕ) : Type 0 where
  pub there : Filled filled 0 n
  pub out : (k : ℕ) → n ≤ k → k < len → slice_index_or filled k false ≡ false

-- where the word of a slot is 0, its buffer is there
pub record IsHome (words : List ℕ) (row : List (Option BufValue)) (rs : List Superblock) : Type 0 where
  pub at : (k : ℕ) → get_elem? words k ≡ some 0 → (b : BufValue) × (get_elem? row k ≡ some (Some b)) × IsAt (lies_in rs k) b

-- the slots from `first` on have all buffers of this superblock
pub record IsWholeFrom (first : ℕ) (row : List (Option BufValue)) (r : Superblock) : Type 0 where
  pub at : (i : ℕ) → i < r.count → (b : BufValue) × (get_elem? row (first + i) ≡ some (Some b)) × IsAt (Some (r, i)) b

-- 1 where the word is n, and else 0
abbrev pub is : ℕ → ℕ → ℕ
is n word = cond (eqb word n) 1 0

-- The counts are those of a state that the heap reached: of words that are 0, 1, 3 and 2. In it one seat had all passes, with all that these counted, so
-- no step of another seat changes a word after it
pub record CountsWords (h : Shape) (passes : List PassValue) (free app lent dev : ℕ) : Type 0 where
  pub last : OwnerState BufValue
  pub reached : Reached (Fits h) h last
  pub id : ℕ
  pub seat : View BufValue
  pub stood : Stands last id seat
  pub gathered : seat.passes ≡ h.passes
  pub claimed : (seat.claimed ≡ sum_by claims passes) × (seat.ended ≡ sum_by ends passes)
  pub loaned : (seat.loaned ≡ sum_by loans passes) × (seat.returned ≡ sum_by returns passes)
  pub counts : (free ≡ total (is 0) last.words) × (app ≡ total (is 1) last.words) × (lent ≡ total (is 3) last.words) × (dev ≡ total (is 2) last.words)
