-- The text that a link sends: requests, and how it ends.
use Rattle.std.specs.Prelude.{◌≡◌, ℕ, suc, zero, ◌+◌, Bool, ◌&&◌, ◌||◌, ◌==◌, nat_lt, if◌then◌else◌, List, [], ◌∷◌, ◌++◌, length, map, take, drop, slice_index, Option, Some, None}
use Rattle.std.specs.Int.{w32, from_be_bytes}
use Rattle.demi_spec.specs.Request.{value_max, Request, Put, Get, End, IsRequest, spelling}

-- A text ends by an end request; where its bytes are used up; by bytes that no request spells, with a code from
-- 1 to 5; or not yet, where more may come.
pub data Ending : Type 0 where
  EndFrame : Ending
  Clean : Ending
  Refused : (code : ℕ) → Ending
  Open : Ending

-- The first code that refuses a head with this kind and these lengths of key and value. 1: no such kind.
-- 2: a put or a get without a key. 3: a put or a get with too long a value. 4: a get with a value, or an end with a
-- length.
abbrev pub code_of_head : ℕ → ℕ → ℕ → Option ℕ
code_of_head kind key value =
    if kind == 0 || nat_lt 3 kind then Some 1
    else if nat_lt kind 3 && key == 0 then Some 2
    else if nat_lt kind 3 && nat_lt value_max value then Some 3
    else if (kind == 2 && nat_lt 0 value) || (kind == 3 && nat_lt 0 (key + value)) then Some 4
    else None

-- A frame that is not whole is refused with code 5 once the input has ended.
abbrev pub cut_short : Bool → Ending
cut_short ended = if ended then Refused 5 else Open

abbrev pub request_of : ℕ → List ℕ → List ℕ → Request
request_of kind key value = if kind == 1 then Put key value else if kind == 2 then Get key else End

-- what stands at the front of a text: a request and what follows it, or how the text ends
pub data Front : Type 0 where
  Whole : (request : Request) (rest : List ℕ) → Front
  Ends : (how : Ending) → Front

-- the same by the fields of a head, by what follows the head, and by the code that refuses it
abbrev pub front_of_content : Bool → ℕ → ℕ → ℕ → List ℕ → Option ℕ → Front
front_of_content ended kind key value content (Some code) = Ends (Refused code)
front_of_content ended kind key value content None =
    if nat_lt (length content) (key + value) then Ends (cut_short ended)
    else Whole (request_of kind (take key content) (take value (drop key content))) (drop (key + value) content)

-- the fields of a head of six bytes
abbrev pub head_kind : List ℕ → ℕ
head_kind bytes = slice_index bytes 0

abbrev pub head_key : List ℕ → ℕ
head_key bytes = slice_index bytes 1

abbrev pub head_value : List ℕ → ℕ
head_value bytes = from_be_bytes w32 (take 4 (drop 2 bytes))

-- A head is looked at when its six bytes are there, and before any byte that follows it.
unfoldable pub front : Bool → List ℕ → Front
front ended bytes =
    if length bytes == 0 then Ends (if ended then Clean else Open)
    else if nat_lt (length bytes) 6 then Ends (cut_short ended)
    else front_of_content ended (head_kind bytes) (head_key bytes) (head_value bytes) (drop 6 bytes)
    (code_of_head (head_kind bytes) (head_key bytes) (head_value bytes))

-- A text is these requests and ends so: their spellings follow each other at its front, up to and with the first
-- end request, and what is left is how it ends. This is the definition that contracts cite.
abbrev pub Parses : List Request → Ending → Bool → List ℕ → Type 0
Parses [] how ended bytes = front ended bytes ≡ Ends how
Parses (End ∷ requests) how ended bytes = (requests ≡ []) × (how ≡ EndFrame) × ((rest : List ℕ) × (bytes ≡ spelling End ++ rest))
Parses (request ∷ requests) how ended bytes =
    IsRequest request × ((rest : List ℕ) × (bytes ≡ spelling request ++ rest) × Parses requests how ended rest)

-- the same, computed
pub record Parsed : Type 0 where
  pub requests : List Request
  pub how : Ending

abbrev pub after_front : Front → (List ℕ → Parsed) → Parsed
after_front (Ends how) parse_rest = record { requests = []; how = how }
after_front (Whole End rest) parse_rest = record { requests = End ∷ []; how = EndFrame }
after_front (Whole request rest) parse_rest = let p = parse_rest rest in record { requests = request ∷ p.requests; how = p.how }

-- at most so many requests
unfoldable pub parse_within : ℕ → Bool → List ℕ → Parsed
parse_within zero ended bytes = record { requests = []; how = Open }
parse_within (suc n) ended bytes = after_front (front ended bytes) (λ rest. parse_within n ended rest)

-- a text has fewer requests than bytes
unfoldable pub parse : List ℕ → Bool → Parsed
parse bytes ended = parse_within (length bytes + 1) ended bytes

-- what a reply answers: a request, or the refused end of a text, which counts as one more
pub data Asked : Type 0 where
  Request_of : (request : Request) → Asked
  Refused_end : (code : ℕ) → Asked

abbrev pub refused_end : Ending → List Asked
refused_end (Refused code) = Refused_end code ∷ []
refused_end how = []

abbrev pub asked_of : List Request → Ending → List Asked
asked_of requests how = map Request_of requests ++ refused_end how

-- all that the replies to a text answer, in order
abbrev pub asked : List ℕ → Bool → List Asked
asked bytes ended = let p = parse bytes ended in asked_of p.requests p.how

-- a text begins with a request in range
pub record Takes (bytes : List ℕ) (request : Request) (rest : List ℕ) : Type 0 where
  pub text : bytes ≡ spelling request ++ rest
  pub fits : IsRequest request
