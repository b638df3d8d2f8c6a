-- A record is a payload of a form: which request of which link put which value under which key.
use Rattle.std.specs.Prelude.{◌≡◌, ℕ, ◌+◌, ◌<◌, ◌≤◌, ◌⊎◌, ◌||◌, ◌==◌, nat_lt, if◌then◌else◌, List, [], ◌∷◌, ◌++◌, length, take, drop, map, flat_map, slice_index, Option, Some, None, Result, Ok, Err}
use Rattle.std.specs.Int.{w16, w32, to_be_bytes, from_be_bytes}
use Rattle.std.specs.List.{AllByRecursion}
use Rattle.demi_spec.specs.Request.{value_max}
use Rattle.demi_spec.specs.LogText.{entry, log_text, IsPayload, IsBadAt, entries, put_first}

-- links, and the requests of a link, are numbered from 0
pub record Record : Type 0 where
  pub link : ℕ
  pub index : ℕ
  pub key : List ℕ
  pub value : List ℕ

-- a record whose fields are in range
pub record IsRecord (r : Record) : Type 0 where
  pub link : r.link < 65536
  pub index : r.index < 4294967296
  pub key : (0 < length r.key) × (length r.key ≤ 255)
  pub value : length r.value ≤ value_max

-- the link in two bytes, the index in four, the length of the key in one, the key and the value
abbrev pub payload : Record → List ℕ
payload r = to_be_bytes w16 r.link ++ to_be_bytes w32 r.index ++ length r.key ∷ r.key ++ r.value

-- the entries of records, one after another
abbrev pub entries_of : List Record → List ℕ
entries_of records = flat_map (λ r. entry (payload r)) records

-- the log text of records
abbrev pub log_of : List Record → List ℕ
log_of records = log_text (map payload records)

-- the record that a payload is
unfoldable pub record_of : List ℕ → Option Record
record_of bytes =
    let key = slice_index bytes 6 in
    if nat_lt (length bytes) 8 || key == 0 || nat_lt (length bytes) (7 + key) || nat_lt (value_max + (7 + key)) (length bytes) then None
    else Some (record {
      link = from_be_bytes w16 (take 2 bytes);
      index = from_be_bytes w32 (take 4 (drop 2 bytes));
      key = take key (drop 7 bytes);
      value = drop (7 + key) bytes;
    })

abbrev pub after_record : ℕ → Option Record → Result (List Record) ℕ → Result (List Record) ℕ
after_record at None rest = Err at
after_record at (Some r) rest = put_first r rest

-- the records that payloads are, or the offset of the first entry whose payload is none; the first entry is here
abbrev pub records_from : ℕ → List (List ℕ) → Result (List Record) ℕ
records_from at [] = Ok []
records_from at (p ∷ payloads) = after_record at (record_of p) (records_from (at + (4 + length p)) payloads)

abbrev pub records_in : Result (List (List ℕ)) ℕ → Result (List Record) ℕ
records_in (Ok payloads) = records_from 8 payloads
records_in (Err at) = Err at

-- The records of a log text, or its first bad byte. Where the entries have a bad byte the records have the same one,
-- whatever the payloads before it are.
abbrev pub records : List ℕ → Result (List Record) ℕ
records bytes = records_in (entries bytes)

-- a log text whose payloads are those of these records
abbrev pub IsRecordLog : List ℕ → List Record → Type 0
IsRecordLog bytes rs = ((bytes ≡ []) × (rs ≡ [])) ⊎ ((bytes ≡ log_of rs) × AllByRecursion IsRecord rs)

-- no record in range has this payload
abbrev pub NoRecord : List ℕ → Type 0
NoRecord bytes = (r : Record) → IsRecord r → bytes ≡ payload r → ⊥

-- a log text in which the entry at this offset holds no record, and each before it holds one
pub record BadRecord (bytes : List ℕ) (at : ℕ) : Type 0 where
  pub before : List Record
  pub bad : List ℕ
  pub more : List (List ℕ)
  pub fits : AllByRecursion IsRecord before
  pub whole : AllByRecursion IsPayload (bad ∷ more)
  pub text : bytes ≡ log_text (map payload before ++ bad ∷ more)
  pub place : at ≡ length (log_of before)
  pub none : NoRecord bad

-- The first bad byte of a text as a log of records. A bad entry comes first, wherever it stands.
abbrev pub IsBadRecordAt : List ℕ → ℕ → Type 0
IsBadRecordAt bytes at = IsBadAt bytes at ⊎ BadRecord bytes at
