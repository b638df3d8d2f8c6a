-- Replies, and the bytes that spell them.
use Rattle.std.specs.Prelude.{ℕ, ◌≤◌, List, [], ◌∷◌, ◌++◌, length}
use Rattle.std.specs.Int.{w32, w64, to_be_bytes}
use Rattle.demi_spec.specs.Request.{value_max}

-- A version is a number of records. A stored put's counts its own record, the others count those that were looked at.
pub data Answer : Type 0 where
  Stored : (version : ℕ) (value : List ℕ) → Answer
  Found : (version : ℕ) (value : List ℕ) → Answer
  Missing : (version : ℕ) → Answer
  Refused : (code : ℕ) → Answer
  Bye : Answer
  Full : (version : ℕ) → Answer

pub record Reply : Type 0 where
  pub worker : ℕ
  pub sequence : ℕ
  pub answer : Answer

-- kind and worker in a byte each, sequence number and version in eight, the length of the bytes in four, and the bytes
abbrev pub frame : ℕ → ℕ → ℕ → ℕ → List ℕ → List ℕ
frame kind worker sequence version bytes =
    kind ∷ worker ∷ to_be_bytes w64 sequence ++ to_be_bytes w64 version ++ to_be_bytes w32 (length bytes) ++ bytes

abbrev pub spelling_of : ℕ → ℕ → Answer → List ℕ
spelling_of worker sequence (Stored version value) = frame 0x81 worker sequence version value
spelling_of worker sequence (Found version value) = frame 0x82 worker sequence version value
spelling_of worker sequence (Missing version) = frame 0x83 worker sequence version []
spelling_of worker sequence (Refused code) = frame 0x84 worker sequence 0 (code ∷ [])
spelling_of worker sequence Bye = frame 0x85 worker sequence 0 []
spelling_of worker sequence (Full version) = frame 0x86 worker sequence version []

abbrev pub spelling : Reply → List ℕ
spelling r = spelling_of r.worker r.sequence r.answer

abbrev pub word_max : ℕ
word_max = 18446744073709551615

-- an answer whose fields are in range
abbrev pub IsAnswer : Answer → Type 0
IsAnswer (Stored version value) = (version ≤ word_max) × (length value ≤ value_max)
IsAnswer (Found version value) = (version ≤ word_max) × (length value ≤ value_max)
IsAnswer (Missing version) = version ≤ word_max
IsAnswer (Refused code) = (1 ≤ code) × (code ≤ 5)
IsAnswer Bye = Unit {0}
IsAnswer (Full version) = version ≤ word_max

pub record IsReply (r : Reply) : Type 0 where
  pub worker : r.worker ≤ 255
  pub sequence : r.sequence ≤ word_max
  pub answer : IsAnswer r.answer
