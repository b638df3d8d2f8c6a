-- The port of the memory queues where it is closed, after the workers of a session took up its links.
use Rattle.std.specs.Prelude.{◌≡◌, ℕ, ◌+◌, ◌<◌, List, [], ◌∷◌, length, slice_get, Some, true, false}
use Rattle.demi_closed.specs.Closed.{Added}
use Rattle.demi_heap.specs.Seen.{HeapId}
use Rattle.demi_link.specs.Sights.{side_of}
use Rattle.demi_memq.specs.declared.op.MemOp.{MemOp}
use Rattle.demi_memq.specs.declared.op.MemOp.TheVariants.{Stop}
use Rattle.demi_pdpix.specs.Lanes.{IsEndOf}
use Rattle.demi_pdpix.specs.Seen.{MemPass}
use Rattle.demi_port.specs.Seen.{DeviceValue, EndValue, PortId}
use Rattle.demi_port_core.specs.History.{Among}
use Rattle.demi_served.specs.Sharing.{Got, MemEntry, Shared}
use Rattle.demi_sharing.specs.Dealing.{MemSide, Shares}

-- The pass of the first worker: it dealt out the numbers of so many links, took up these, and then stopped the port.
pub record FirstTook (links : ℕ) (numbers : List ℕ) (p : MemPass) : Type 0 where
  pub number : p.number ≡ 0
  pub before : MemSide
  pub shares : Shares true links numbers before
  pub stopped : Added Stop before p

-- The pass of another worker, which has this number: it took up these, and did nothing else.
pub record OtherTook (links n : ℕ) (numbers : List ℕ) (p : MemPass) : Type 0 where
  pub number : p.number ≡ n
  pub after : MemSide
  pub shares : Shares false links numbers after
  pub side : side_of p ≡ after

-- so did each of these, with the numbers from this one on
abbrev pub OthersTook : ℕ → ℕ → List (List ℕ) → List MemPass → Type 0
OthersTook links n [] [] = Unit {0}
OthersTook links n [] (p ∷ ps) = ⊥
OthersTook links n (numbers ∷ more) [] = ⊥
OthersTook links n (numbers ∷ more) (p ∷ ps) = OtherTook links n numbers p × OthersTook links (n + 1) more ps

-- the workers' passes in order, each with the numbers that it took up
abbrev pub AllTook : ℕ → List (List ℕ) → List MemPass → Type 0
AllTook links [] ps = ⊥
AllTook links (numbers ∷ more) [] = ⊥
AllTook links (numbers ∷ more) (p ∷ ps) = FirstTook links numbers p × OthersTook links 1 more ps

-- The port of the memory queues is closed, and its passes are those of the workers, who took up these numbers.
pub record ClosedShares (links : ℕ) (taken : List (List ℕ)) (id : PortId HeapId) (seat : DeviceValue MemOp (Unit {0}) HeapId)
    (passes : List MemPass) (end : EndValue MemOp (Unit {0}) HeapId) : Type 0 where
  pub ends : IsEndOf id seat passes end
  pub workers : seat.passes ≡ length passes
  pub took : AllTook links taken passes

-- The numbers of so many links were shared out to so many workers, and each took up just those that its pops got: so each link was taken up by
-- one worker, and nothing else was.
pub record SharedOut (links workers : ℕ) (taken : List (List ℕ)) (history : List MemEntry) : Type 0 where
  pub shared : Shared links workers history
  pub each : length taken ≡ workers
  pub got : (n l : ℕ) (numbers : List ℕ) → slice_get taken n ≡ Some numbers → Among l numbers → Got history l n
  pub noted : (n l : ℕ) (numbers : List ℕ) → slice_get taken n ≡ Some numbers → Got history l n → Among l numbers
  pub some : (l : ℕ) → l < links → (n : ℕ) × (numbers : List ℕ) × (slice_get taken n ≡ Some numbers) × Among l numbers
  pub one : (l n m : ℕ) (numbers others : List ℕ) → slice_get taken n ≡ Some numbers → slice_get taken m ≡ Some others → Among l numbers → Among l others → n ≡ m
  pub below : (l n : ℕ) (numbers : List ℕ) → slice_get taken n ≡ Some numbers → Among l numbers → l < links
