-- The law of a log's queue.
use Rattle.std.specs.Prelude.{◌≡◌, ℕ, ◌-◌, ◌==◌, nat_lt, cond, Bool, true, false, List, [], ◌∷◌, length, map, slice_get, Option, Some, None}
use Rattle.demi_heap.specs.Seen.{HeapId, HalfValue}
use Rattle.demi_sga.specs.Arrays.{AreOf}
use Rattle.demi_logq.specs.declared.op.LogOp.{LogOp}
use Rattle.demi_logq.specs.declared.op.LogOp.TheVariants.{Push, Pop, Seek, Truncate, Stop}
use Rattle.demi_logq.specs.declared.out.LogOut.{LogOut}
use Rattle.demi_logq.specs.declared.out.LogOut.TheVariants.{Item, NoSlot, Fault}
use Rattle.demi_logq.specs.declared.told.LogTold.{LogTold}
use Rattle.demi_logq.specs.declared.told.LogTold.TheVariants.{ByDisk, BySlot}
use Rattle.demi_logq.specs.Folding.{Answer, Just, Entry, bytes_of, log_result}

-- the payloads that the log had, how many entries there may be, the heap of the arrays, and whether the disk tells its bytes
pub record LogBasis : Type 0 where
  pub payloads : List (List ℕ)
  pub limit : ℕ
  pub heap : HeapId
  pub told : Bool

-- a log without entries
abbrev pub no_log : LogBasis
no_log = record {
  payloads = [];
  limit = 0;
  heap = record { table = record { words = 0; slots = 0; views_name = 0; atom = 0; block = 0; offset = 0; slot_names = [] }; shape = record { small = 0; page = 0; large = 0; passes = 0; blocks = [] } };
  told = true;
}

-- the halves of a push are of the base's heap
abbrev pub IsProper : LogBasis → LogOp → Type 0
IsProper b (Push sga) = AreOf b.heap sga
IsProper b Pop = Unit {0}
IsProper b (Seek index) = Unit {0}
IsProper b (Truncate keep) = Unit {0}
IsProper b Stop = Unit {0}

-- it ends the service
abbrev pub is_stop : LogOp → Bool
is_stop (Push sga) = false
is_stop Pop = false
is_stop (Seek index) = false
is_stop (Truncate keep) = false
is_stop Stop = true

-- what an outcome tells of the outside
abbrev pub told_by : LogOut → Option LogTold
told_by Fault = Some ByDisk
told_by NoSlot = Some BySlot
told_by other = None

-- what a trail tells of a place
abbrev pub struck_at : List (ℕ × LogTold) → ℕ → Option LogTold
struck_at [] p = None
struck_at (t ∷ trail) p = cond (t.0 == p) (Some t.1) (struck_at trail p)

-- how many bytes the segments of an item of n bytes have
abbrev pub spread : ℕ → List ℕ
spread n = cond (nat_lt 65536 n) (65536 ∷ (n - 65536) ∷ []) (n ∷ [])

abbrev pub segment_bytes : HalfValue → ℕ
segment_bytes a = length a.bytes

-- an array with this payload; where the disk does not tell its bytes their number alone is bound
pub record IsItem (told : Bool) (heap : HeapId) (payload : List ℕ) (sga : List HalfValue) : Type 0 where
  pub of_heap : AreOf heap sga
  pub segments : map segment_bytes sga ≡ spread (length payload)
  pub bytes : told ≡ true → bytes_of sga ≡ payload

-- the outcome is what was said
abbrev pub Is : Bool → HeapId → Answer → LogOut → Type 0
Is told heap (Just x) (Item sga) = ⊥
Is told heap (Just x) o = o ≡ x
Is told heap (Entry payload) (Item sga) = IsItem told heap payload sga
Is told heap (Entry payload) other = ⊥

-- the array of an outcome is of this heap
abbrev pub IsFrom : HeapId → LogOut → Type 0
IsFrom heap (Item sga) = AreOf heap sga
IsFrom heap other = Unit {0}

-- what is said to an operation at its place, on the operations below it and what was told up to it
abbrev pub said_to : LogBasis → List LogOp → List (ℕ × LogTold) → ℕ → LogOp → Answer
said_to b h t p op = log_result b.limit b.payloads (struck_at t) h p op

abbrev pub Admits : LogBasis → List LogOp → List (ℕ × LogTold) → ℕ → LogOut → Type 0
Admits b h t p o = (op : LogOp) × (slice_get h p ≡ Some op) × Is b.told b.heap (said_to b h t p op) o × IsFrom b.heap o
