-- The steps of the owner machine: who may make each, and what it makes of the state.
use Rattle.std.specs.Prelude.{◌≡◌, ◌≢◌, ℕ, suc, ◌+◌, ◌-◌, ◌<◌, ◌≤◌, [], ◌∷◌, ◌++◌, slice_set, Some, None}
use mathlib.Core.Option.{some, none}
use lib.ListN.{get_elem?}
use Rattle.demi_heap_core.specs.declared.shape.Shape.{Shape}
use Rattle.demi_heap_core.specs.declared.view.Halves.TheVariants.{Neither, Sole, Lent, Device, Both}
use Rattle.demi_heap_core.specs.declared.view.Guest.{Guest}
use Rattle.demi_heap_core.specs.declared.view.View.{View}
use Rattle.demi_heap_core.specs.Owner.{slots, soles, lents, devices, Homes, OwnerState, word}

-- The first number is the stepping seat. Of a step on a word the second is the slot, and then comes the buffer that is lent or goes home; of a join it is the seat that is spent
pub data OwnerStep (B : Type 0) : Type 0 where
  claim_won : ℕ → ℕ → OwnerStep B
  claim_lost : ℕ → ℕ → OwnerStep B
  load : ℕ → ℕ → OwnerStep B
  free_sole : ℕ → ℕ → B → OwnerStep B
  lend : ℕ → ℕ → B → OwnerStep B
  free_lent : ℕ → ℕ → OwnerStep B
  release : ℕ → ℕ → B → OwnerStep B
  reclaim : ℕ → ℕ → OwnerStep B
  still_held : ℕ → ℕ → OwnerStep B
  rejoin : ℕ → ℕ → OwnerStep B
  part_pass : ℕ → OwnerStep B
  part_lent : ℕ → OwnerStep B
  deal : ℕ → OwnerStep B
  join_pass : ℕ → ℕ → OwnerStep B
  join_lent : ℕ → ℕ → OwnerStep B
  part_bare : ℕ → OwnerStep B
  join_bare : ℕ → ℕ → OwnerStep B
  part_guest : ℕ → OwnerStep B
  join_guest : ℕ → ℕ → OwnerStep B

-- the seat that makes the step
abbrev pub stepper : {B : Type 0} → OwnerStep B → ℕ
stepper (claim_won id k) = id
stepper (claim_lost id k) = id
stepper (load id k) = id
stepper (free_sole id k b) = id
stepper (lend id k b) = id
stepper (free_lent id k) = id
stepper (release id k b) = id
stepper (reclaim id k) = id
stepper (still_held id k) = id
stepper (rejoin id k) = id
stepper (part_pass id) = id
stepper (part_lent id) = id
stepper (deal id) = id
stepper (join_pass id other) = id
stepper (join_lent id other) = id
stepper (part_bare id) = id
stepper (join_bare id other) = id
stepper (part_guest id) = id
stepper (join_guest id other) = id

module _ {B : Type 0} where
  -- what a step makes of the stepping seat's view
  abbrev pub view_claimed : View B → ℕ → View B
  view_claimed v k = record v { halves = Sole; slot = k; claimed = v.claimed + 1 }

  -- at the time t the seat found that the slot k had an owner
  abbrev pub view_missed : View B → ℕ → ℕ → View B
  view_missed v t k = record v { missed = (t, k) ∷ v.missed; clock = t + 1 }

  abbrev pub view_freed : View B → View B
  view_freed v = record v { halves = Neither; ended = v.ended + 1; held = []; half_clock = 0 }

  abbrev pub view_lent : View B → B → View B
  view_lent v b = record v { halves = Both; lent = Some b; loaned = v.loaned + 1 }

  abbrev pub view_released : View B → View B
  view_released v = record v { halves = Neither; returned = v.returned + 1; held = []; half_clock = 0 }

  abbrev pub view_reclaimed : View B → View B
  view_reclaimed v = record v { halves = Sole }

  -- at the time t the seat found that the slot k had a device half
  abbrev pub view_held : View B → ℕ → ℕ → View B
  view_held v t k = record v { held = (t, k) ∷ v.held; half_clock = t + 1 }

  abbrev pub view_rejoined : View B → View B
  view_rejoined v = record v { halves = Sole; returned = v.returned + 1 }

  -- there is no guest
  abbrev pub no_guest : Guest B
  no_guest = record { halves = Neither; slot = 0; lent = None }

  -- how a view is cut in two: what is left is the half alone, and the new seat has the pass
  abbrev pub half_alone : View B → View B
  half_alone v = record v { passes = 0; claimed = 0; ended = 0; loaned = 0; returned = 0; clock = 0; missed = [] }

  abbrev pub pass_alone : View B → View B
  pass_alone v = record v { halves = Neither; guest = no_guest; half_clock = 0; held = [] }

  -- after a lend what is left is the device half, and the new seat has the lent half
  abbrev pub device_alone : View B → View B
  device_alone v = record v { halves = Device }

  abbrev pub lent_alone : View B → View B
  lent_alone v = record v { halves = Lent; guest = no_guest; passes = 0; claimed = 0; ended = 0; loaned = 0; returned = 0 }

  -- how passes are dealt out at the start
  abbrev pub one_less : View B → View B
  one_less v = record v { passes = v.passes - 1 }

  abbrev pub one_pass : View B → View B
  one_pass v = record v { passes = 1; claimed = 0; ended = 0; loaned = 0; returned = 0; halves = Neither; guest = no_guest; clock = 0; missed = []; half_clock = 0; held = [] }

  -- a seat with a pass that it took in
  abbrev pub with_pass : View B → View B → View B
  with_pass v p = record v { passes = v.passes + p.passes; claimed = v.claimed + p.claimed; ended = v.ended + p.ended; loaned = v.loaned + p.loaned; returned = v.returned + p.returned; clock = p.clock; missed = p.missed }

  -- the seat of a device half with the lent half of its slot
  abbrev pub with_lent : View B → View B
  with_lent v = record v { halves = Both }

  -- what a seat has of its slot
  abbrev pub part_of : View B → Guest B
  part_of v = record { halves = v.halves; slot = v.slot; lent = v.lent }

  -- a seat that has this part alone
  abbrev pub part_alone : Shape → Guest B → View B
  part_alone h g = record { shape = h; passes = 0; claimed = 0; ended = 0; loaned = 0; returned = 0; halves = g.halves; slot = g.slot; lent = g.lent; guest = no_guest; clock = 0; missed = []; half_clock = 0; held = [] }

  -- a seat without its half, and with the half that went off from it
  abbrev pub bare : View B → View B
  bare v = record v { halves = Neither }

  abbrev pub with_half : View B → View B → View B
  with_half v w = record v { halves = w.halves }

  -- a seat with the half of another as its guest, and without it
  abbrev pub with_guest : View B → View B → View B
  with_guest v w = record v { guest = part_of w }

  abbrev pub without_guest : View B → View B
  without_guest v = record v { guest = no_guest }

  -- a seat that was taken in
  abbrev pub spent : View B
  spent = part_alone (record { small = 0; page = 0; large = 0; passes = 0; blocks = [] }) no_guest

  -- the seat id has this view
  abbrev pub Stands : OwnerState B → ℕ → View B → Type 0
  Stands s id v = get_elem? s.views id ≡ some v

  -- the word of the slot k becomes n, and the seat id has the view w
  abbrev pub written : OwnerState B → ℕ → ℕ → Homes B → ℕ → View B → OwnerState B
  written s k n homes id w = record { time = suc s.time; words = slice_set s.words k n; homes = homes; views = slice_set s.views id w }

  -- the seat id keeps the left view, and a new seat has the right one
  abbrev pub cut : OwnerState B → ℕ → View B → View B → OwnerState B
  cut s id left right = record { time = suc s.time; words = s.words; homes = s.homes; views = slice_set s.views id left ++ right ∷ [] }

  -- the seat id has the view of both, and the other is spent
  abbrev pub joined : OwnerState B → ℕ → ℕ → View B → OwnerState B
  joined s id other both = record { time = suc s.time; words = s.words; homes = s.homes; views = slice_set (slice_set s.views id both) other spent }

module _ {B : Type 0} (good : ℕ → B → Type 0) (shape : Shape) where
  -- a seat with this half of the slot k, and a pass
  abbrev pub Steps : OwnerState B → OwnerStep B → OwnerState B → Type 0
  -- a pass finds the word 0: it has the slot's sole half, and holds the slot
  Steps s (claim_won id k) t = (v : View B) × Stands s id v × (v.halves ≡ Neither) × (1 ≤ v.passes) × (k < slots shape) × (word s k ≡ 0)
      × (t ≡ written s k 1 (slice_set s.homes k none) id (view_claimed v k))
  -- a pass finds another word
  Steps s (claim_lost id k) t = (v : View B) × Stands s id v × (v.halves ≡ Neither) × (1 ≤ v.passes) × (k < slots shape) × (1 ≤ word s k)
      × (t ≡ written s k (word s k) s.homes id (view_missed v s.time k))
  Steps s (load id k) t = (v : View B) × Stands s id v × (t ≡ written s k (word s k) s.homes id v)
  -- a sole half puts a buffer of its slot home and clears the application's bit
  Steps s (free_sole id k b) t = (v : View B) × Stands s id v × (v.halves ≡ Sole) × (v.slot ≡ k) × (1 ≤ v.passes) × good k b
      × (t ≡ written s k 0 (slice_set s.homes k (some (Some b))) id (view_freed v))
  -- a sole half that has the buffer sets the device's bit
  Steps s (lend id k b) t = (v : View B) × Stands s id v × (v.halves ≡ Sole) × (v.slot ≡ k) × (1 ≤ v.passes) × good k b
      × (t ≡ written s k 3 s.homes id (view_lent v b))
  -- a lent half clears the application's bit
  Steps s (free_lent id k) t = (v : View B) × Stands s id v × (v.halves ≡ Lent) × (v.slot ≡ k) × (1 ≤ v.passes)
      × (t ≡ written s k (word s k - 1) s.homes id (view_freed v))
  -- a device half puts the buffer that was lent home and clears the device's bit
  Steps s (release id k b) t = (v : View B) × Stands s id v × (v.halves ≡ Device) × (v.slot ≡ k) × (1 ≤ v.passes) × (v.lent ≡ Some b) × good k b
      × (t ≡ written s k (word s k - 2) (slice_set s.homes k (some (Some b))) id (view_released v))
  -- a lent half loads its word. Where the device's bit is clear it becomes sole, and holds the slot
  Steps s (reclaim id k) t = (v : View B) × Stands s id v × (v.halves ≡ Lent) × (v.slot ≡ k) × (word s k < 2)
      × (t ≡ written s k (word s k) (slice_set s.homes k none) id (view_reclaimed v))
  Steps s (still_held id k) t = (v : View B) × Stands s id v × (v.halves ≡ Lent) × (v.slot ≡ k) × (2 ≤ word s k)
      × (t ≡ written s k (word s k) s.homes id (view_held v s.time k))
  -- a seat with both halves clears the device's bit
  Steps s (rejoin id k) t = (v : View B) × Stands s id v × (v.halves ≡ Both) × (v.slot ≡ k) × (1 ≤ v.passes)
      × (t ≡ written s k 1 s.homes id (view_rejoined v))
  Steps s (part_pass id) t = (v : View B) × Stands s id v × (t ≡ cut s id (half_alone v) (pass_alone v))
  Steps s (part_lent id) t = (v : View B) × Stands s id v × (v.halves ≡ Both) × (t ≡ cut s id (device_alone v) (lent_alone v))
  Steps s (deal id) t = (v : View B) × Stands s id v × (v.halves ≡ Neither) × (2 ≤ v.passes) × (t ≡ cut s id (one_less v) (one_pass v))
  Steps s (join_pass id other) t = (v : View B) × (p : View B) × Stands s id v × (other ≢ id) × Stands s other p × (p.halves ≡ Neither) × (1 ≤ v.passes + (soles v.halves + lents v.halves + devices v.halves)) × (p.guest.halves ≡ Neither)
      × (t ≡ joined s id other (with_pass v p))
  Steps s (join_lent id other) t = (v : View B) × (w : View B) × Stands s id v × (other ≢ id) × Stands s other w × (v.halves ≡ Device) × (w.halves ≡ Lent) × (w.slot ≡ v.slot) × (w.passes ≡ 0) × (w.guest.halves ≡ Neither)
      × (t ≡ joined s id other (with_lent v))
  -- a half goes off from its seat, and comes back to it
  Steps s (part_bare id) t = (v : View B) × Stands s id v × (t ≡ cut s id (bare v) (part_alone v.shape (part_of v)))
  Steps s (join_bare id other) t = (v : View B) × (w : View B) × Stands s id v × (other ≢ id) × Stands s other w × (v.halves ≡ Neither) × (w.shape ≡ v.shape) × (w.slot ≡ v.slot) × (w.lent ≡ v.lent) × (w.passes ≡ 0) × (w.guest.halves ≡ Neither)
      × (t ≡ joined s id other (with_half v w))
  -- a seat with a half takes in the half of another as its guest, which goes off again
  Steps s (part_guest id) t = (v : View B) × Stands s id v × (t ≡ cut s id (without_guest v) (part_alone v.shape v.guest))
  Steps s (join_guest id other) t = (v : View B) × (w : View B) × Stands s id v × (other ≢ id) × Stands s other w × (v.guest.halves ≡ Neither) × (w.shape ≡ v.shape) × (w.passes ≡ 0) × (w.guest.halves ≡ Neither)
      × (t ≡ joined s id other (with_guest v w))
