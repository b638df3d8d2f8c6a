-- The text of a log: nothing at all, or a header and entries that each hold a payload.
use Rattle.std.specs.Prelude.{◌≡◌, ℕ, zero, suc, ◌+◌, ◌-◌, ◌<◌, ◌≤◌, ◌⊎◌, ◌||◌, ◌==◌, nat_lt, if◌then◌else◌, List, [], ◌∷◌, ◌++◌, length, take, drop, flat_map, Option, Some, None, Result, Ok, Err, bytes_eq}
use Rattle.std.specs.List.{AllByRecursion}
use Rattle.std.specs.Int.{w32, to_be_bytes, from_be_bytes}

-- `DEMILOG1`
abbrev pub header : List ℕ
header = 0x44 ∷ 0x45 ∷ 0x4d ∷ 0x49 ∷ 0x4c ∷ 0x4f ∷ 0x47 ∷ 0x31 ∷ []

abbrev pub payload_max : ℕ
payload_max = 65798

-- a payload that an entry may hold
abbrev pub IsPayload : List ℕ → Type 0
IsPayload payload = (0 < length payload) × (length payload ≤ payload_max)

-- the length in four bytes, and the payload
abbrev pub entry : List ℕ → List ℕ
entry payload = to_be_bytes w32 (length payload) ++ payload

abbrev pub log_text : List (List ℕ) → List ℕ
log_text payloads = header ++ flat_map entry payloads

-- a log text with these payloads
abbrev pub IsLog : List ℕ → List (List ℕ) → Type 0
IsLog bytes payloads = ((bytes ≡ []) × (payloads ≡ [])) ⊎ ((bytes ≡ log_text payloads) × AllByRecursion IsPayload payloads)

-- the length of the payload of the entry that stands whole at the front of a text
abbrev pub length_that_fits : ℕ → ℕ → Option ℕ
length_that_fits size room = if size == 0 || nat_lt payload_max size || nat_lt room size then None else Some size

unfoldable pub entry_front : List ℕ → Option ℕ
entry_front bytes = if nat_lt (length bytes) 4 then None else length_that_fits (from_be_bytes w32 (take 4 bytes)) (length bytes - 4)

-- one in front of what is read behind it
abbrev pub put_first : {A : Type 0} → A → Result (List A) ℕ → Result (List A) ℕ
put_first x (Ok xs) = Ok (x ∷ xs)
put_first x (Err at) = Err at

abbrev pub after_entry : ℕ → List ℕ → Option ℕ → (ℕ → List ℕ → Result (List (List ℕ)) ℕ) → Result (List (List ℕ)) ℕ
after_entry at bytes None rest = Err at
after_entry at bytes (Some n) rest = put_first (take n (drop 4 bytes)) (rest (at + (4 + n)) (drop n (drop 4 bytes)))

-- the payloads of the entries that follow each other from this place on, at most so many
unfoldable pub entries_within : ℕ → ℕ → List ℕ → Result (List (List ℕ)) ℕ
entries_within zero at bytes = Err at
entries_within (suc n) at [] = Ok []
entries_within (suc n) at (b ∷ bytes) = after_entry at (b ∷ bytes) (entry_front (b ∷ bytes)) (λ next rest. entries_within n next rest)

-- The payloads of a log text. Of any other text the offset of its first bad byte: 0 where the header is wrong, else
-- the first byte of the first entry that is not whole or whose length is out of range.
unfoldable pub entries : List ℕ → Result (List (List ℕ)) ℕ
entries [] = Ok []
entries (b ∷ bytes) = if bytes_eq (take 8 (b ∷ bytes)) header then entries_within (length (b ∷ bytes)) 8 (drop 8 (b ∷ bytes)) else Err 0

-- no entry stands whole at the front of a text
abbrev pub NoEntry : List ℕ → Type 0
NoEntry text = (payload more : List ℕ) → IsPayload payload → text ≡ entry payload ++ more → ⊥

-- a text that is not empty and does not begin with the header
abbrev pub HasNoHeader : List ℕ → Type 0
HasNoHeader bytes = (0 < length bytes) × ((rest : List ℕ) → bytes ≡ header ++ rest → ⊥)

-- Up to this offset a text is a header and whole entries. More follows there, and no entry stands whole.
pub record BadFrom (bytes : List ℕ) (at : ℕ) : Type 0 where
  pub before : List (List ℕ)
  pub rest : List ℕ
  pub fits : AllByRecursion IsPayload before
  pub text : bytes ≡ log_text before ++ rest
  pub place : at ≡ length (log_text before)
  pub some : 0 < length rest
  pub none : NoEntry rest

-- the first byte that neither the header nor a whole entry has
abbrev pub IsBadAt : List ℕ → ℕ → Type 0
IsBadAt bytes at = (HasNoHeader bytes × (at ≡ 0)) ⊎ BadFrom bytes at
