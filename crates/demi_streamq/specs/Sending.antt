-- What a sending port answers, by its history and by what its outcomes told.
use Rattle.std.specs.Prelude.{◌≡◌, ℕ, ◌+◌, ◌<◌, ◌≤◌, List, [], ◌∷◌, ◌++◌, length, take, drop, Option, Some, None, Bool, true, false, ltb, cond, slice_get}
use Rattle.demi_device.specs.Serving.{first_stop}
use Rattle.demi_heap.specs.Seen.{HeapId, HalfValue}
use Rattle.demi_sga.specs.Arrays.{AreOf, byte_count}
use Rattle.demi_streamq.specs.Receiving.{at, told_at, IsThere}
use Rattle.demi_streamq.specs.declared.tx_op.TxOp.{TxOp}
use Rattle.demi_streamq.specs.declared.tx_op.TxOp.TheVariants.{Push, Close, Stop}
use Rattle.demi_streamq.specs.declared.tx_out.TxOut.{TxOut}
use Rattle.demi_streamq.specs.declared.tx_out.TxOut.TheVariants.{Pushed, Fault, Broken, Shut, Closed, Stopped, Halted}

-- it ends the service
abbrev pub is_stop : TxOp → Bool
is_stop (Push sga) = false
is_stop Close = false
is_stop Stop = true

-- it closes the port
abbrev pub is_close : TxOp → Bool
is_close (Push sga) = false
is_close Close = true
is_close Stop = false

-- one of these does
abbrev pub has_close : List TxOp → Bool
has_close [] = false
has_close (op ∷ ops) = cond (is_close op) true (has_close ops)

-- the halves of a push are of this heap
abbrev pub IsProper : HeapId → TxOp → Type 0
IsProper heap (Push sga) = AreOf heap sga
IsProper heap Close = Unit {0}
IsProper heap Stop = Unit {0}

-- a fault tells how many bytes of its push were written
abbrev pub told : TxOut → Option ℕ
told (Fault k) = Some k
told Pushed = None
told (Broken q) = None
told Shut = None
told Closed = None
told (Stopped s) = None
told Halted = None

-- the first failure at a lower place than p
abbrev pub broken_at : ℕ → List (ℕ × ℕ) → Option ℕ
broken_at p [] = None
broken_at p (e ∷ es) = cond (ltb e.0 p) (Some e.0) (broken_at p es)

-- the bytes of an array
abbrev pub array_bytes : List HalfValue → List ℕ
array_bytes [] = []
array_bytes (a ∷ xs) = a.bytes ++ array_bytes xs

-- the part of so many bytes from a place on: it has a byte, and is what stands there up to where it ends
pub record IsPart (bytes : List ℕ) (count from : ℕ) (part : List ℕ) : Type 0 where
  pub some : 0 < length part
  pub within : from + length part ≤ count
  pub there : drop from bytes ≡ part ++ drop (from + length part) bytes

-- the outcome of a push of n bytes that is written: all of them, or fewer and then a failure
abbrev pub IsWrite : ℕ → TxOut → Type 0
IsWrite n Pushed = Unit {0}
IsWrite n (Fault k) = k < n
IsWrite n (Broken q) = ⊥
IsWrite n Shut = ⊥
IsWrite n Closed = ⊥
IsWrite n (Stopped s) = ⊥
IsWrite n Halted = ⊥

-- the outcome of an operation at an open port
abbrev pub TxOpen : TxOp → Option ℕ → TxOut → Type 0
TxOpen (Push sga) here o = (told o ≡ here) × IsWrite (byte_count sga) o
TxOpen Close here o = o ≡ Shut
TxOpen Stop here o = o ≡ Halted

-- at a port that is open or closed
abbrev pub TxUse : Bool → TxOp → Option ℕ → TxOut → Type 0
TxUse true op here o = o ≡ Closed
TxUse false op here o = TxOpen op here o

-- after a failure or before
abbrev pub TxRest : Option ℕ → Bool → TxOp → Option ℕ → TxOut → Type 0
TxRest (Some b) closed op here o = o ≡ Broken (at b)
TxRest None closed op here o = TxUse closed op here o

-- the outcome of an operation before a stop: a stop halts also a port that is broken or closed
abbrev pub TxCalm : Option TxOp → Option ℕ → Bool → Option ℕ → TxOut → Type 0
TxCalm None broken closed here o = ⊥
TxCalm (Some Stop) broken closed here o = o ≡ Halted
TxCalm (Some Close) broken closed here o = TxRest broken closed Close here o
TxCalm (Some (Push sga)) broken closed here o = TxRest broken closed (Push sga) here o

-- the outcome of an operation, after a stop or before
abbrev pub TxAnswer : Option ℕ → Option TxOp → Option ℕ → Bool → Option ℕ → TxOut → Type 0
TxAnswer (Some s) op broken closed here o = (o ≡ Stopped (at s)) × IsThere op
TxAnswer None op broken closed here o = TxCalm op broken closed here o

-- The outcome of the place p: stopped after a stop; else broken after a failure; else closed after a close; else written, with
-- what it told there
abbrev pub TxAdmits : List TxOp → List (ℕ × ℕ) → ℕ → TxOut → Type 0
TxAdmits h t p o = TxAnswer (first_stop is_stop 0 (take p h)) (slice_get h p) (broken_at p t) (has_close (take p h)) (told_at p t) o
