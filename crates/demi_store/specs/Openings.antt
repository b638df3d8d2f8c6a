-- Entries that are read as records.
use Rattle.std.specs.Prelude.{◌≡◌, ℕ, ◌+◌, ◌<◌, ◌≤◌, List, [], ◌∷◌, length, take, drop, slice_index, replicate, Option, Some, None, IfSome}
use Rattle.std.specs.List.{AllByRecursion}
use Rattle.std.specs.Int.{w16, w32, from_be_bytes}
use Rattle.demi_spec.specs.Record.{Record, IsRecord, payload}
use Rattle.demi_logq.specs.Logged.{Holds, place_of}
use Rattle.demi_store.specs.Finding.{entry_of, last_with}
use Rattle.demi_store.specs.declared.index.Index.{Index}

-- a payload of so many bytes that begins so is a record's
abbrev pub FitsRecord : List ℕ → ℕ → Type 0
FitsRecord head size = (8 ≤ size) × (0 < slice_index head 6) × (7 + slice_index head 6 ≤ size) × (size ≤ 65536 + 7 + slice_index head 6)

-- the bytes of a payload at a place, so many: those that are told, and zeros where none are
abbrev pub payload_told : Option (List ℕ) → ℕ → ℕ → List ℕ
payload_told None at size = replicate size 0
payload_told (Some b) at size = take size (drop at b)

-- the record of a payload, the front of which is read apart
abbrev pub heard : List ℕ → List ℕ → Record
heard p head = record {
  link = from_be_bytes w16 (take 2 head);
  index = from_be_bytes w32 (take 4 (drop 2 head));
  key = take (slice_index head 6) (drop 7 head);
  value = drop (7 + slice_index head 6) p;
}

-- each record is that of its payload: the lengths are the same, and where the disk tells its bytes all is
abbrev pub Alike : Option (List ℕ) → List (List ℕ) → List Record → Type 0
Alike told [] [] = Unit {0}
Alike told [] (r ∷ records) = ⊥
Alike told (p ∷ payloads) [] = ⊥
Alike told (p ∷ payloads) (r ∷ records) = (length p ≡ length (payload r)) × IfSome told (λ _. p ≡ payload r) × Alike told payloads records

-- the first entries were read, so many
pub record ReadTo (told : Option (List ℕ)) (ends : List ℕ) (index : Index) (records : List Record) (i : ℕ) : Type 0 where
  pub alike : (payloads : List (List ℕ)) → Holds told ends payloads → Alike told (take i payloads) records
  pub fits : AllByRecursion IsRecord records
  pub entries : (key : List ℕ) → entry_of index key ≡ last_with records key
  pub count : length records ≡ i

-- an entry of those that end there begins at this place
abbrev pub BeginsEntry : List ℕ → ℕ → Type 0
BeginsEntry ends at = (i : ℕ) × (i < length ends) × (at ≡ place_of ends i)
