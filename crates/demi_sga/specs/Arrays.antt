-- What a contract sees of an array.
use Rattle.std.specs.Prelude.{cond, ltb, ◌||◌, ◌==◌, replicate, ◌-◌, nat_lt, ◌≡◌, ℕ, zero, suc, ◌+◌, ◌<◌, ◌≤◌, Bool, List, slice_set, [], ◌∷◌, ◌++◌, length, take, drop, if◌then◌else◌, nat_le}
use Rattle.demi_buf.specs.Bufs.{size_of}
use Rattle.demi_buf.specs.declared.class.Class.{Class}
use Rattle.demi_buf.specs.declared.class.Class.TheVariants.{Small, Page, Large}
use mathlib.Core.Option.{some}
use lib.ListN.{get_elem?}
use Rattle.demi_heap.specs.Rule.{first_of, end_of}
use Rattle.demi_heap.specs.Seen.{HeapId, HalfValue, PassValue, CameRoundTo, FoundFree, SawHeld, looked_as, one_claimed, new_half, half_with, half_written}

-- an array that was lent: its segments in order, and how many of them are taken back already
pub record LentValue : Type 0 where
  pub segments : List HalfValue
  pub back : ℕ

-- all segments are of this heap
abbrev pub AreOf : HeapId → List HalfValue → Type 0
AreOf h [] = Unit {0}
AreOf h (a ∷ xs) = (a.heap ≡ h) × AreOf h xs

-- the same slots in order
abbrev pub SameSlots : List HalfValue → List HalfValue → Type 0
SameSlots [] [] = Unit {0}
SameSlots [] (b ∷ bs) = ⊥
SameSlots (a ∷ xs) [] = ⊥
SameSlots (a ∷ xs) (b ∷ bs) = (a.slot ≡ b.slot) × SameSlots xs bs

-- ys are the segments xs, but that a call found the first held by the device
abbrev pub FirstHeld : List HalfValue → List HalfValue → Type 0
FirstHeld [] ys = ys ≡ []
FirstHeld (a ∷ xs) ys = (b : HalfValue) × SawHeld a b × (ys ≡ b ∷ xs)

-- ys are the segments xs, but that a call found the k-th held by the device
pub record HeldAt (k : ℕ) (xs ys : List HalfValue) : Type 0 where
  pub segment : HalfValue
  pub after : HalfValue
  pub there : get_elem? xs k ≡ some segment
  pub found : SawHeld segment after
  pub others : ys ≡ slice_set xs k after

-- how many bytes all segments have
abbrev pub byte_count : List HalfValue → ℕ
byte_count [] = 0
byte_count (a ∷ xs) = length a.bytes + byte_count xs

-- the least class that holds n bytes
abbrev pub class_for : ℕ → Class
class_for n = if nat_le n (size_of Small) then Small else (if nat_le n (size_of Page) then Page else Large)

-- what the numbers of a pass become by n calls
abbrev pub loaned_by : PassValue → ℕ → PassValue
loaned_by p n = record p { loaned = p.loaned + n }

abbrev pub ended_by : PassValue → ℕ → PassValue
ended_by p n = record p { ended = p.ended + n }

abbrev pub returned_by : PassValue → ℕ → PassValue
returned_by p n = record p { returned = p.returned + n }

-- the bytes from a place on, to the end of their segment, at most so many
abbrev pub part_of : List HalfValue → ℕ → ℕ → List ℕ
part_of [] from most = []
part_of (a ∷ xs) from most = cond (ltb from (length a.bytes)) (take most (drop from a.bytes)) (part_of xs (from - length a.bytes) most)

-- the half with its length set
abbrev pub sized : HalfValue → ℕ → HalfValue
sized a n = record a { bytes = take n a.bytes ++ replicate (n - length a.bytes) 0 }

-- the array with the bytes of its segment i written over
abbrev pub written_at : ℕ → List HalfValue → List ℕ → List HalfValue
written_at i [] bytes = []
written_at zero (a ∷ xs) bytes = half_written a bytes ∷ xs
written_at (suc i) (a ∷ xs) bytes = a ∷ written_at i xs bytes

-- no segment holds so many bytes, or they are none
abbrev pub bad_size : ℕ → Bool
bad_size n = (n == 0) || nat_lt (size_of Large) n

-- a new half with n bytes, all 0
abbrev pub zeroed : HeapId → Class → ℕ → ℕ → HalfValue
zeroed h c slot n = half_with (new_half h c slot) (replicate n 0)

-- A call that brought the pass from v to w claimed this slot of the class: it went round the class, each slot that it came to before had an owner, and this one had no half
pub record Claimed (h : HeapId) (c : Class) (v w : PassValue) (slot : ℕ) : Type 0 where
  pub in_class : (first_of h.shape c ≤ slot) × (slot < end_of h.shape c)
  pub skipped : CameRoundTo v w (first_of h.shape c) (end_of h.shape c) slot
  pub free : FoundFree (looked_as v w) slot
  pub pass : w ≡ one_claimed (looked_as v w)
