-- What a receiving port answers, by its history and by what its outcomes told.
use Rattle.std.specs.Prelude.{◌≡◌, ℕ, ◌≤◌, List, [], ◌∷◌, ◌++◌, length, take, Option, Some, None, Bool, true, false, ◌==◌, ltb, cond, slice_get}
use Rattle.demi_port_core.specs.declared.place.Place.{Place}
use Rattle.demi_device.specs.Serving.{first_stop}
use Rattle.demi_heap.specs.Seen.{HeapId}
use Rattle.demi_streamq.specs.declared.rx_op.RxOp.{RxOp}
use Rattle.demi_streamq.specs.declared.rx_op.RxOp.TheVariants.{Pop, Stop}
use Rattle.demi_streamq.specs.declared.rx_out.RxOut.{RxOut}
use Rattle.demi_streamq.specs.declared.rx_out.RxOut.TheVariants.{Piece, End, Fault, Broken, NoSlot, Stopped, Halted}
use Rattle.demi_streamq.specs.declared.rx_told.RxTold.{RxTold}
use Rattle.demi_streamq.specs.declared.rx_told.RxTold.TheVariants.{Bytes, AtEnd, Failed, Refused}

-- it ends the service
abbrev pub is_stop : RxOp → Bool
is_stop Stop = true
is_stop (Pop max) = false

-- a pop asks for 1 to 4,096 bytes
abbrev pub IsFit : RxOp → Type 0
IsFit Stop = Unit {0}
IsFit (Pop max) = (1 ≤ max) × (max ≤ 4096)

-- a piece is of this heap
abbrev pub IsFrom : HeapId → RxOut → Type 0
IsFrom heap (Piece v) = v.heap ≡ heap
IsFrom heap End = Unit {0}
IsFrom heap (Fault k) = Unit {0}
IsFrom heap (Broken q) = Unit {0}
IsFrom heap NoSlot = Unit {0}
IsFrom heap (Stopped s) = Unit {0}
IsFrom heap Halted = Unit {0}

-- a heap without slots
abbrev pub no_heap : HeapId
no_heap = record { table = record { words = 0; slots = 0; views_name = 0; atom = 0; block = 0; offset = 0; slot_names = [] }; shape = record { small = 0; page = 0; large = 0; passes = 0; blocks = [] } }

-- what an outcome tells
abbrev pub told : RxOut → Option RxTold
told (Piece v) = Some (Bytes v.bytes)
told End = Some AtEnd
told (Fault k) = Some (Failed k)
told NoSlot = Some Refused
told (Broken q) = None
told (Stopped s) = None
told Halted = None

-- the place of this number
abbrev pub at : ℕ → Place
at p = record { 0 = p }

-- an end, or a failure at the place k; else the rest says it
abbrev pub over_by : RxTold → ℕ → Option RxOut → Option RxOut
over_by AtEnd k more = Some End
over_by (Failed n) k more = Some (Broken (at k))
over_by (Bytes bs) k more = more
over_by Refused k more = more

-- what a pop at the place p finds over, by what lower places told
abbrev pub over : ℕ → List (ℕ × RxTold) → Option RxOut
over p [] = None
over p (e ∷ es) = cond (ltb e.0 p) (over_by e.1 e.0 (over p es)) (over p es)

-- what was told at the place p
abbrev pub told_at : {T : Type 0} → ℕ → List (ℕ × T) → Option T
told_at p [] = None
told_at p (e ∷ es) = cond (e.0 == p) (Some e.1) (told_at p es)

-- the bytes that were told
abbrev pub bytes_in : RxTold → List ℕ
bytes_in (Bytes bs) = bs
bytes_in AtEnd = []
bytes_in (Failed n) = []
bytes_in Refused = []

-- the bytes that were told by lower places
abbrev pub bytes_before : ℕ → List (ℕ × RxTold) → List ℕ
bytes_before p [] = []
bytes_before p (e ∷ es) = cond (ltb e.0 p) (bytes_in e.1) [] ++ bytes_before p es

-- the outcome of one read of at most max bytes, after n bytes
abbrev pub IsRead : ℕ → ℕ → RxOut → Type 0
IsRead max n (Piece v) = (1 ≤ length v.bytes) × (length v.bytes ≤ max)
IsRead max n End = Unit {0}
IsRead max n (Fault k) = k ≡ n
IsRead max n NoSlot = Unit {0}
IsRead max n (Broken q) = ⊥
IsRead max n (Stopped s) = ⊥
IsRead max n Halted = ⊥

-- the outcome of a pop that finds this over, or reads
abbrev pub RxRead : ℕ → Option RxOut → Option RxTold → ℕ → RxOut → Type 0
RxRead max (Some r) here n o = o ≡ r
RxRead max None here n o = (told o ≡ here) × IsRead max n o

-- the outcome of an operation before a stop
abbrev pub RxPop : Option RxOp → Option RxOut → Option RxTold → ℕ → RxOut → Type 0
RxPop None found here n o = ⊥
RxPop (Some Stop) found here n o = o ≡ Halted
RxPop (Some (Pop max)) found here n o = RxRead max found here n o

-- there is such an operation
abbrev pub IsThere : {D : Type 0} → Option D → Type 0
IsThere None = ⊥
IsThere (Some op) = Unit {0}

-- the outcome of an operation, after a stop or before
abbrev pub RxAnswer : Option ℕ → Option RxOp → Option RxOut → Option RxTold → ℕ → RxOut → Type 0
RxAnswer (Some s) op found here n o = (o ≡ Stopped (at s)) × IsThere op
RxAnswer None op found here n o = RxPop op found here n o

-- The outcome of the place p: stopped after a stop; else of what is over already, an end or the place of a failure; else of
-- one read, of at most as many bytes as were asked, after the bytes told by lower places
abbrev pub RxAdmits : List RxOp → List (ℕ × RxTold) → ℕ → RxOut → Type 0
RxAdmits h t p o = RxAnswer (first_stop is_stop 0 (take p h)) (slice_get h p) (over p t) (told_at p t) (length (bytes_before p t)) o
