-- How a log's queue stands for what its operations made of it, and what one operation does.
use Rattle.std.specs.Prelude.{◌≡◌, ◌⊎◌, ℕ, ◌+◌, ◌≤◌, Bool, true, false, List, [], ◌∷◌, ◌++◌, length, take, get_or, Option, None, option_map}
use Rattle.std.specs.Io.KnownBytes.{append_known}
use Rattle.demi_core.specs.Outside.{Rose, GrowsByFront}
use Rattle.demi_core.specs.Outside as outside
use Rattle.demi_heap.specs.Seen.{HeapId, PassValue}
use Rattle.demi_port_core.specs.declared.place.Place.{Place}
use Rattle.demi_spec.specs.LogText.{entry}
use Rattle.demi_logq.specs.declared.op.LogOp.{LogOp}
use Rattle.demi_logq.specs.declared.op.LogOp.TheVariants.{Push, Pop, Seek, Truncate, Stop}
use Rattle.demi_logq.specs.declared.out.LogOut.{LogOut}
use Rattle.demi_logq.specs.declared.out.LogOut.TheVariants.{Appended, Item, NoSlot, Fault, Cut}
use Rattle.demi_logq.specs.Logged.{Logged, Holds, place_of}
use Rattle.demi_logq.specs.Folding.{Standing, bytes_of, said_at}
use Rattle.demi_logq.specs.Answers.{LogBasis, Is, told_by}
use Rattle.demi_logq.specs.Items.{Accounts, FoundNone, tells}

-- the segments that an operation brings
abbrev pub op_segments : LogOp → ℕ
op_segments (Push sga) = length sga
op_segments Pop = 0
op_segments (Seek index) = 0
op_segments (Truncate keep) = 0
op_segments Stop = 0

-- the segments that an outcome gives
abbrev pub out_segments : LogOut → ℕ
out_segments (Item sga) = length sga
out_segments other = 0

-- the payloads of the log before it are those behind it, but for this
abbrev pub Turns : {D : Type 0} → (D → Option (List ℕ)) → (List (List ℕ) → List (List ℕ)) → Logged D → Logged D → Type 0
Turns bytes f a b = (payloads : List (List ℕ)) → Holds (bytes a.disk) a.ends payloads → Holds (bytes b.disk) b.ends (f payloads)

-- What an operation does with the log, by its outcome: a push that is appended is one append of the disk, a cut is one cut, a pop that
-- reads makes looks alone, and no other does anything.
abbrev pub LogGoes : {D : Type 0} → (D → Option (List ℕ)) → (D → ℕ) → (D → List ℕ → Bool → D → Type 0) → (D → ℕ → Bool → D → Type 0) → (D → D → Type 0) → Logged D → Logged D → LogOp → LogOut → Type 0
LogGoes bytes held appends cuts looks a b (Push sga) (Appended n) =
    appends a.disk (entry (bytes_of sga)) true b.disk × (bytes b.disk ≡ append_known (bytes a.disk) (entry (bytes_of sga))) × (held b.disk ≡ held a.disk + (4 + length (bytes_of sga)))
    × Turns bytes (λ (l : List (List ℕ)). l ++ bytes_of sga ∷ []) a b
LogGoes bytes held appends cuts looks a b (Push sga) Fault =
    appends a.disk (entry (bytes_of sga)) false b.disk × GrowsByFront (bytes a.disk) (bytes b.disk) (held a.disk) (held b.disk) (entry (bytes_of sga)) × Turns bytes (λ (l : List (List ℕ)). l) a b
LogGoes bytes held appends cuts looks a b Pop (Item sga) = (b ≡ record a { disk = b.disk }) × looks a.disk b.disk × (bytes b.disk ≡ bytes a.disk) × (held b.disk ≡ held a.disk)
LogGoes bytes held appends cuts looks a b Pop Fault = (b ≡ record a { disk = b.disk }) × looks a.disk b.disk × (bytes b.disk ≡ bytes a.disk) × (held b.disk ≡ held a.disk)
LogGoes bytes held appends cuts looks a b (Truncate keep) Cut =
    cuts a.disk (place_of a.ends keep) true b.disk × outside.Cut (bytes a.disk) (bytes b.disk) (held b.disk) (place_of a.ends keep) × Turns bytes (take keep) a b
LogGoes bytes held appends cuts looks a b (Truncate keep) Fault =
    cuts a.disk (place_of a.ends keep) false b.disk × (outside.Cut (bytes a.disk) (bytes b.disk) (held b.disk) (place_of a.ends keep) ⊎ ((bytes b.disk ≡ bytes a.disk) × (held b.disk ≡ held a.disk)))
LogGoes bytes held appends cuts looks a b op o = b ≡ a

-- how many bytes the entry at the cursor has
abbrev pub next_size : Standing → ℕ
next_size s = length (get_or s.payloads s.cursor [])

-- What an operation does where s stood. The numbers of the pass account for its segments. The disk's count does not fall, and the
-- outcome is a fault only where it rose; it is NoSlot only where each slot of a class that the entry at the cursor needs was found
-- owned in this very call.
pub record Moves {D : Type 0} (bytes : D → Option (List ℕ)) (held faults : D → ℕ) (appends : D → List ℕ → Bool → D → Type 0) (cuts : D → ℕ → Bool → D → Type 0) (looks : D → D → Type 0) (s : Standing) (a b : Logged D) (v w : PassValue) (op : LogOp) (o : LogOut) : Type 0 where
  pub pass : Accounts v w (op_segments op) (out_segments o)
  pub later : faults a.disk ≤ faults b.disk
  pub fault : o ≡ Fault → Rose (faults a.disk) (faults b.disk)
  pub none : o ≡ NoSlot → FoundNone v w (next_size s)
  pub log : LogGoes bytes held appends cuts looks a b op o

-- the log has just these payloads
pub record IsWhole {D : Type 0} (told : Option (List ℕ)) (log : Logged D) (b : LogBasis) (s : Standing) : Type 0 where
  pub torn : log.torn ≡ false
  pub lost : log.lost ≡ false
  pub told_is : b.told ≡ tells told
  pub holds : Holds told log.ends s.payloads

-- the fields of a queue are as what stands
pub record Shows {D : Type 0} (told : Option (List ℕ)) (log : Logged D) (heap : HeapId) (pass : PassValue) (b : LogBasis) (s : Standing) (cursor : ℕ) (fault stop : Option Place) : Type 0 where
  pub limit : log.limit ≡ b.limit
  pub staged : log.staged ≡ []
  pub pass_is : pass.heap ≡ heap
  pub heap_is : b.heap ≡ heap
  pub cursor_is : cursor ≡ s.cursor
  pub fault_is : option_map (λ (p : Place). p.0) fault ≡ s.fault
  pub stop_is : option_map (λ (p : Place). p.0) stop ≡ s.stop
  pub within : s.cursor ≤ length s.payloads
  pub whole : fault ≡ None → IsWhole told log b s

-- the operation at the place p was answered: what was said is what the law says where s stood, and what stands now is shown
pub record Answered (told : Bool) (heap : HeapId) (limit p : ℕ) (op : LogOp) (s : Standing) (Show : Standing → Type 0) (o : LogOut) : Type 0 where
  pub said : Is told heap (said_at limit p op (told_by o) s).0 o
  pub shows : Show (said_at limit p op (told_by o) s).1
