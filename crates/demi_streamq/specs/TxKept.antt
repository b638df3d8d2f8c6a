-- What a sending engine keeps beside its sink.
use Rattle.std.specs.Prelude.{◌≡◌, ℕ, ◌+◌, List, [], ◌∷◌, ◌++◌, length, take, Option, None, Bool, ◌⊎◌}
use Rattle.demi_device.specs.Serving.{first_stop, trail}
use Rattle.demi_streamq.specs.declared.tx_op.TxOp.{TxOp}
use Rattle.demi_streamq.specs.declared.tx_op.TxOp.TheVariants.{Push, Close, Stop}
use Rattle.demi_streamq.specs.declared.tx_out.TxOut.{TxOut}
use Rattle.demi_streamq.specs.declared.tx_out.TxOut.TheVariants.{Pushed, Fault, Broken, Shut, Closed, Stopped, Halted}
use Rattle.demi_streamq.specs.RxKept.{InOrder}
use Rattle.demi_streamq.specs.Sending.{array_bytes, broken_at, has_close, is_stop, told, TxAdmits}

-- each operation has its outcome, and what the engine remembers is what the history and the outcomes say
pub record TxKept (h : List TxOp) (f : List (ℕ × TxOut)) (closed : Bool) (broken stop : Option ℕ) : Type 0 where
  pub order : InOrder 0 f
  pub count : length f ≡ length h
  pub broken_is : broken ≡ broken_at (length h) (trail told f)
  pub stop_is : stop ≡ first_stop is_stop 0 h
  pub closed_is : stop ≡ None → broken ≡ None → closed ≡ has_close h

-- the bytes that an operation brings
abbrev pub bytes_of : TxOp → List ℕ
bytes_of (Push sga) = array_bytes sga
bytes_of Close = []
bytes_of Stop = []

-- the segments that it brings
abbrev pub segments_of : TxOp → ℕ
segments_of (Push sga) = length sga
segments_of Close = 0
segments_of Stop = 0

-- of these bytes of an operation with this outcome, those that were written
abbrev pub written_of : List ℕ → TxOut → List ℕ
written_of bytes Pushed = bytes
written_of bytes (Fault k) = take k bytes
written_of bytes (Broken q) = []
written_of bytes Shut = []
written_of bytes Closed = []
written_of bytes (Stopped s) = []
written_of bytes Halted = []

-- the bytes that operations wrote, each with its outcome
abbrev pub all_written : List TxOp → List (ℕ × TxOut) → List ℕ
all_written [] f = []
all_written (op ∷ ops) [] = []
all_written (op ∷ ops) (o ∷ os) = written_of (bytes_of op) o.1 ++ all_written ops os

-- the segments that operations bring
abbrev pub all_segments : List TxOp → ℕ
all_segments [] = 0
all_segments (op ∷ ops) = segments_of op + all_segments ops

-- it is a fault
abbrev pub IsFault : TxOut → Type 0
IsFault (Fault k) = Unit {0}
IsFault Pushed = ⊥
IsFault (Broken q) = ⊥
IsFault Shut = ⊥
IsFault Closed = ⊥
IsFault (Stopped s) = ⊥
IsFault Halted = ⊥

-- it wrote nothing, and touched no sink
abbrev pub IsRefusal : TxOut → Type 0
IsRefusal (Broken q) = Unit {0}
IsRefusal Shut = Unit {0}
IsRefusal Closed = Unit {0}
IsRefusal (Stopped s) = Unit {0}
IsRefusal Halted = Unit {0}
IsRefusal Pushed = ⊥
IsRefusal (Fault k) = ⊥

-- one is a fault
abbrev pub HasFault : List (ℕ × TxOut) → Type 0
HasFault [] = ⊥
HasFault (o ∷ os) = IsFault o.1 ⊎ HasFault os

-- the outcome of the operation is admitted with it
abbrev pub TxServes : List TxOp → List (ℕ × TxOut) → TxOp → ℕ → TxOut → Type 0
TxServes h f op p o = TxAdmits (h ++ op ∷ []) (trail told (f ++ (p, o) ∷ [])) p o
