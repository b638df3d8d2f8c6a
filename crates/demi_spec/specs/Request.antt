-- Requests, and the bytes that spell them.
use Rattle.std.specs.Prelude.{ℕ, ◌<◌, ◌≤◌, List, [], ◌∷◌, ◌++◌, length, get_or}
use Rattle.std.specs.Int.{w32, to_be_bytes}

-- numbers that are bytes
abbrev pub IsBytes : List ℕ → Type 0
IsBytes bytes = (i : ℕ) → get_or bytes i 0 < 256

pub data Request : Type 0 where
  Put : (key value : List ℕ) → Request
  Get : (key : List ℕ) → Request
  End : Request

abbrev pub IsKey : List ℕ → Type 0
IsKey key = (0 < length key) × (length key ≤ 255)

-- a value has at most so many bytes
abbrev pub value_max : ℕ
value_max = 65536

abbrev pub IsValue : List ℕ → Type 0
IsValue value = length value ≤ value_max

-- a request whose lengths are in range
abbrev pub IsRequest : Request → Type 0
IsRequest (Put key value) = IsKey key × IsValue value
IsRequest (Get key) = IsKey key
IsRequest End = Unit {0}

-- the kind, the length of the key in one byte, that of the value in four, and both
abbrev pub frame : ℕ → List ℕ → List ℕ → List ℕ
frame kind key value = kind ∷ length key ∷ to_be_bytes w32 (length value) ++ key ++ value

abbrev pub spelling : Request → List ℕ
spelling (Put key value) = frame 1 key value
spelling (Get key) = frame 2 key []
spelling End = frame 3 [] []

-- a request in range behind which others may stand
abbrev pub GoesOn : Request → Type 0
GoesOn (Put key value) = IsRequest (Put key value)
GoesOn (Get key) = IsRequest (Get key)
GoesOn End = ⊥

abbrev pub AllGoOn : List Request → Type 0
AllGoOn [] = Unit {0}
AllGoOn (r ∷ requests) = GoesOn r × AllGoOn requests
