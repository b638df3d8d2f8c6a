-- What the pass of a log's queue does, and what comes of an entry that is read.
use Rattle.std.specs.Prelude.{◌≡◌, ℕ, ◌+◌, ◌≤◌, Bool, true, false, List, [], length, get_or, Option, Some, None}
use Rattle.demi_core.specs.Outside.{Rose}
use Rattle.demi_heap.specs.Rule.{first_of, end_of}
use Rattle.demi_heap.specs.Seen.{HeapId, PassValue, SawOwned}
use Rattle.demi_port_core.specs.History.{AnyOf}
use Rattle.demi_sga.specs.Arrays.{class_for}
use Rattle.demi_logq.specs.Logged.{Logged, Holds}
use Rattle.demi_logq.specs.Answers.{IsItem, spread}
use Rattle.demi_logq.specs.declared.item.Taken.{Taken}
use Rattle.demi_logq.specs.declared.item.Taken.TheVariants.{Item, NoSlot, Fault}

-- The pass, from v to w: so many device halves came and were ended, and so many slots were claimed and given. Each other slot that
-- was claimed was freed. It lent none.
pub record Accounts (v w : PassValue) (came gave : ℕ) : Type 0 where
  pub heap : w.heap ≡ v.heap
  pub loaned : w.loaned ≡ v.loaned
  pub returned : w.returned ≡ v.returned + came
  pub ended : v.ended ≤ w.ended
  pub claimed : w.claimed + v.ended ≡ v.claimed + w.ended + gave
  pub clock : v.clock ≤ w.clock

-- each slot of the least class that holds so many bytes was found owned, at looks of the call that brought the pass from v to w
abbrev pub NoneHolds : PassValue → PassValue → ℕ → Type 0
NoneHolds v w size = SawOwned v w (first_of v.heap.shape (class_for size)) (end_of v.heap.shape (class_for size))

-- So it was for a segment of an item of n bytes. A second segment has at most 262 of them, so the slot that was claimed for the
-- first one is none of its class.
abbrev pub FoundNone : PassValue → PassValue → ℕ → Type 0
FoundNone v w n = AnyOf (NoneHolds v w) (spread n)

-- the disk tells its bytes
abbrev pub tells : Option (List ℕ) → Bool
tells None = false
tells (Some bytes) = true

-- what came of reading the entry i, by its outcome
abbrev pub Took : {D : Type 0} → (D → Option (List ℕ)) → (D → ℕ) → HeapId → ℕ → Logged D → Logged D → PassValue → PassValue → Taken → Type 0
Took bytes faults heap i a b v w (Item sga) = Accounts v w 0 (length sga) × ((payloads : List (List ℕ)) → Holds (bytes a.disk) a.ends payloads → IsItem (tells (bytes a.disk)) heap (get_or payloads i []) sga)
Took bytes faults heap i a b v w NoSlot = Accounts v w 0 0 × ((payloads : List (List ℕ)) → Holds (bytes a.disk) a.ends payloads → FoundNone v w (length (get_or payloads i []))) × (b ≡ a)
Took bytes faults heap i a b v w Fault = Accounts v w 0 0 × Rose (faults a.disk) (faults b.disk)
