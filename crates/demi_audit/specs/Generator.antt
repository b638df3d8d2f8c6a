-- The inputs that a number gives: random requests, dealt to links.
use Rattle.std.specs.Prelude.{ℕ, zero, suc, ◌+◌, ◌*◌, ◌/◌, ◌%◌, ◌^◌, ◌==◌, if◌then◌else◌, List, [], ◌∷◌, ◌++◌, map, flat_map, replicate}
use Rattle.std.specs.List.{range_with_len}
use Rattle.demi_spec.specs.Request.{Request, Put, Get, End, spelling}

-- the state after one draw
unfoldable pub after_draw : ℕ → ℕ
after_draw state = (state * 6364136223846793005 + 1442695040888963407) % 2 ^ 64

-- what that draw gives: the high 31 bits of the new state
unfoldable pub drawn : ℕ → ℕ
drawn state = after_draw state / 2 ^ 33

-- the letter `k` and two decimal digits
abbrev pub key_numbered : ℕ → List ℕ
key_numbered k = 107 ∷ (48 + k / 10) ∷ (48 + k % 10) ∷ []

-- a get of key k; or a put of it, of n bytes that are the same letter
abbrev pub request_by : ℕ → ℕ → ℕ → Request
request_by k kind n = if kind == 0 then Get (key_numbered k) else Put (key_numbered k) (replicate n (97 + k % 26))

-- A request takes three draws, whatever its kind: one of 64 keys, a get in one of four cases, and how long a value is.
abbrev pub request_from : ℕ → Request
request_from state = request_by (drawn state % 64) (drawn (after_draw state) % 4) (drawn (after_draw (after_draw state)) % 64)

abbrev pub after_request : ℕ → ℕ
after_request state = after_draw (after_draw (after_draw state))

-- so many requests, from this state on
abbrev pub requests_from : ℕ → ℕ → List Request
requests_from zero state = []
requests_from (suc n) state = request_from state ∷ requests_from n (after_request state)

-- those that go to this link, of so many: request i goes to link i modulo their number; the first here is number i
abbrev pub dealt : ℕ → ℕ → ℕ → List Request → List Request
dealt links link i [] = []
dealt links link i (r ∷ requests) = if i % links == link then r ∷ dealt links link (i + 1) requests else dealt links link (i + 1) requests

-- the input of one link: its requests, and an end frame
unfoldable pub input_of : ℕ → ℕ → ℕ → ℕ → List ℕ
input_of seed links count link = flat_map spelling (dealt links link 0 (requests_from count seed)) ++ spelling End

-- the inputs of all links
abbrev pub inputs : ℕ → ℕ → ℕ → List (List ℕ)
inputs seed links count = map (input_of seed links count) (range_with_len 0 links)
