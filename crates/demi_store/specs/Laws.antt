-- The law of the store.
use Rattle.std.specs.Prelude.{◌≡◌, ℕ, ◌<◌, ◌≤◌, Bool, true, false, List, [], ◌∷◌, length, slice_get, Option, Some, None}
use Rattle.demi_buf.specs.declared.class.Class.TheVariants.{Large}
use Rattle.demi_heap.specs.Seen.{HalfValue}
use Rattle.demi_spec.specs.Record.{Record}
use Rattle.demi_spec.specs.Reply as reply
use Rattle.demi_store.specs.History.{Said, Told, Fault, NoMemory, Broken, Stopped, Halted, value_bytes, store_result, struck_at}
use Rattle.demi_store.specs.declared.answer.StoreAnswer.{StoreAnswer}
use Rattle.demi_store.specs.declared.answer.StoreAnswer.TheVariants as said
use Rattle.demi_store.specs.declared.ask.StoreAsk.{StoreAsk}
use Rattle.demi_store.specs.declared.op.StoreOp.{StoreOp}
use Rattle.demi_store.specs.declared.op.StoreOp.TheVariants.{Put, Get, Stop}
use Rattle.demi_store.specs.declared.back.Back.{Back}
use Rattle.demi_store.specs.declared.back.Back.TheVariants.{Nothing, Value, Room}
use Rattle.demi_store.specs.declared.out.StoreOut.{StoreOut}
use Rattle.demi_store.specs.declared.told.StoreTold.{StoreTold}
use Rattle.demi_store.specs.declared.told.StoreTold.TheVariants.{ByDisk, ByMemory}

-- the old records, how many there may be, and whether the disk tells its bytes
pub record StoreBasis : Type 0 where
  pub records : List Record
  pub limit : ℕ
  pub told : Bool

-- a store without records
abbrev pub no_store : StoreBasis
no_store = record { records = []; limit = 0; told = true }

-- a key is not empty, a value has at most so many bytes, and a room holds each value
abbrev pub IsProperOp : StoreOp → Type 0
IsProperOp (Put link index key value) = (0 < length key.items) × (length (value_bytes value) ≤ 65536)
IsProperOp (Get key room) = (0 < length key.items) × (room.class ≡ Large)
IsProperOp Stop = Unit {0}

abbrev pub IsProper : StoreBasis → StoreAsk → Type 0
IsProper b ask = IsProperOp ask.op

-- it ends the service
abbrev pub stops_op : StoreOp → Bool
stops_op (Put link index key value) = false
stops_op (Get key room) = false
stops_op Stop = true

abbrev pub is_stop : StoreAsk → Bool
is_stop ask = stops_op ask.op

-- what an outcome tells of the outside
abbrev pub told_by : StoreAnswer → Option StoreTold
told_by said.Fault = Some ByDisk
told_by said.NoMemory = Some ByMemory
told_by other = None

abbrev pub told_of : StoreOut → Option StoreTold
told_of o = told_by o.answer

-- the answer that says this
abbrev pub AnswerIs : Said → StoreAnswer → Type 0
AnswerIs (Told (reply.Stored v value)) a = a ≡ said.Stored v
AnswerIs (Told (reply.Full v)) a = a ≡ said.Full v
AnswerIs (Told (reply.Found v value)) a = a ≡ said.Found v
AnswerIs (Told (reply.Missing v)) a = a ≡ said.Missing v
AnswerIs (Told other) a = ⊥
AnswerIs Fault a = a ≡ said.Fault
AnswerIs NoMemory a = a ≡ said.NoMemory
AnswerIs (Broken p) a = a ≡ said.Broken (record { 0 = p })
AnswerIs (Stopped p) a = a ≡ said.Stopped (record { 0 = p })
AnswerIs Halted a = a ≡ said.Halted

-- the bytes of a value that was found; of a disk that does not tell its bytes their number alone is bound
abbrev pub ValueIs : Bool → List ℕ → List ℕ → Type 0
ValueIs true value bytes = bytes ≡ value
ValueIs false value bytes = length bytes ≡ length value

-- the bytes of a room that comes back
abbrev pub BytesAre : Bool → Said → List ℕ → Type 0
BytesAre told (Told (reply.Found v value)) bytes = ValueIs told value bytes
BytesAre told (Told (reply.Missing v)) bytes = bytes ≡ []
BytesAre told other bytes = Unit {0}

-- the same slot of the same heap
abbrev pub SameSlot : HalfValue → HalfValue → Type 0
SameSlot a b = (b.heap ≡ a.heap) × (b.slot ≡ a.slot) × (b.class ≡ a.class)

-- the same slots in order, with their bytes
abbrev pub AllSame : List HalfValue → List HalfValue → Type 0
AllSame [] [] = Unit {0}
AllSame (a ∷ sga) (b ∷ back) = SameSlot a b × (b.bytes ≡ a.bytes) × AllSame sga back
AllSame sga back = ⊥

-- what comes back with what is said to an operation
abbrev pub BackIs : Bool → Said → StoreOp → Back → Type 0
BackIs told s (Put link index key None) Nothing = Unit {0}
BackIs told s (Put link index key (Some sga)) (Value back) = AllSame sga back
BackIs told s (Get key room) (Room back) = SameSlot room back × BytesAre told s back.bytes
BackIs told s Stop Nothing = Unit {0}
BackIs told s op other = ⊥

-- the outcome of an operation to which this is said
abbrev pub SaysTo : Bool → StoreOp → Said → StoreOut → Type 0
SaysTo told op s o = AnswerIs s o.answer × BackIs told s op o.back

-- what the store says to an operation at its place, on what was asked before it and what was told up to it
abbrev pub said_to : StoreBasis → List StoreAsk → List (ℕ × StoreTold) → ℕ → StoreAsk → Said
said_to b h t p ask = store_result b.limit b.records (struck_at t) h p ask

abbrev pub Admits : StoreBasis → List StoreAsk → List (ℕ × StoreTold) → ℕ → StoreOut → Type 0
Admits b h t p o = (ask : StoreAsk) × (slice_get h p ≡ Some ask) × SaysTo b.told ask.op (said_to b h t p ask) o
