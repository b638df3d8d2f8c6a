-- What comes back from the store, and what of it goes along with a reply.
use Rattle.std.specs.Prelude.{◌≡◌, ◌≤◌, ℕ, ◌==◌, cond, length, List, [], ◌∷◌, Option, Some, None}
use Rattle.demi_buf.specs.Bufs.{size_of}
use Rattle.demi_heap.specs.Seen.{HalfValue, HeapId}
use Rattle.demi_sga.specs.Arrays.{AreOf, LentValue, SameSlots, byte_count}
use Rattle.demi_store.specs.declared.answer.StoreAnswer.{StoreAnswer}
use Rattle.demi_store.specs.declared.answer.StoreAnswer.TheVariants as said
use Rattle.demi_store.specs.declared.back.Back.{Back}
use Rattle.demi_store.specs.declared.back.Back.TheVariants.{Nothing, Value, Room}

-- what comes back, as segments
abbrev pub segments_of : Back → Option (List HalfValue)
segments_of Nothing = None
segments_of (Value sga) = Some sga
segments_of (Room room) = Some (room ∷ [])

-- a room that comes back has at most as many bytes as it holds
abbrev pub RoomHolds : Back → Type 0
RoomHolds Nothing = Unit {0}
RoomHolds (Value sga) = Unit {0}
RoomHolds (Room room) = length room.bytes ≤ size_of room.class

-- what comes back goes with the lent halves that are at hand
abbrev pub IsPaired : HeapId → Option LentValue → Back → Type 0
IsPaired heap None Nothing = Unit {0}
IsPaired heap (Some half) (Value sga) = AreOf heap half.segments × AreOf heap sga × SameSlots half.segments sga × (half.back ≡ 0)
IsPaired heap None (Room room) = room.heap ≡ heap
IsPaired heap half back = ⊥

-- the segments where they have bytes
abbrev pub where_bytes : Option (List HalfValue) → Option (List HalfValue)
where_bytes None = None
where_bytes (Some sga) = cond (byte_count sga == 0) None (Some sga)

-- the kind and the version of a reply
abbrev pub Says : StoreAnswer → ℕ → ℕ → Type 0
Says (said.Stored v) kind version = (kind ≡ 0x81) × (version ≡ v)
Says (said.Found v) kind version = (kind ≡ 0x82) × (version ≡ v)
Says (said.Missing v) kind version = (kind ≡ 0x83) × (version ≡ v)
Says (said.Full v) kind version = (kind ≡ 0x86) × (version ≡ v)
Says other kind version = ⊥
