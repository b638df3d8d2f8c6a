-- The head of a reply, as far as it is there.
use Rattle.std.specs.Prelude.{◌≡◌, ℕ, ◌==◌, ◌||◌, ◌&&◌, Bool, false, nat_le, nat_lt, if◌then◌else◌, List, [], ◌∷◌, ◌++◌, length, min, take, drop, replicate, slice_index}
use Rattle.std.specs.Int.{w32, w64, from_be_bytes}
use Rattle.demi_spec.specs.Request.{value_max}
use Rattle.demi_frame.specs.declared.reply.Reply.{Reply}

-- The least head of a reply that begins as the bytes do: a refused reply has one byte, and the others may have none.
abbrev pub least_head : List ℕ → List ℕ
least_head bytes = take (min (length bytes) 22) bytes ++ drop (min (length bytes) 22) (replicate 21 0 ++ (if slice_index bytes 0 == 0x84 then 1 else 0) ∷ [])

abbrev pub head_version : List ℕ → ℕ
head_version head = from_be_bytes w64 (take 8 (drop 10 head))

abbrev pub head_size : List ℕ → ℕ
head_size head = from_be_bytes w32 (take 4 (drop 18 head))

-- the fields of a head
pub record FieldsOf (head : List ℕ) (r : Reply) : Type 0 where
  pub kind : r.kind ≡ slice_index head 0
  pub worker : r.worker ≡ slice_index head 1
  pub sequence : r.sequence ≡ from_be_bytes w64 (take 8 (drop 2 head))
  pub version : r.version ≡ head_version head
  pub size : r.length ≡ head_size head
  pub place : r.from ≡ 22

-- whether a head with these fields begins a reply
abbrev pub head_fits : ℕ → ℕ → ℕ → Bool
head_fits kind version size =
    if kind == 0x81 || kind == 0x82 then nat_le size value_max
    else if kind == 0x83 || kind == 0x86 then size == 0
    else if kind == 0x84 then version == 0 && size == 1
    else if kind == 0x85 then version == 0 && size == 0
    else false

-- whether the first byte behind a head is no code of a refusal
abbrev pub code_is_bad : ℕ → List ℕ → Bool
code_is_bad kind [] = false
code_is_bad kind (code ∷ content) = kind == 0x84 && (code == 0 || nat_lt 5 code)
