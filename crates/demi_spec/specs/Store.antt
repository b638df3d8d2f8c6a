-- What a store on one thread answers, and the records that it adds.
use Rattle.std.specs.Prelude.{ℕ, ◌+◌, nat_le, if◌then◌else◌, List, [], ◌∷◌, ◌++◌, length, Option, Some, None, bytes_eq}
use Rattle.demi_spec.specs.Request.{Put, Get, End}
use Rattle.demi_spec.specs.Input.{Asked, Request_of, Refused_end}
use Rattle.demi_spec.specs.Reply.{Answer, Reply, Stored, Found, Missing, Refused, Bye, Full}
use Rattle.demi_spec.specs.Record.{Record}

-- the value of a record, unless a later one has the key
abbrev pub unless_later : Record → List ℕ → Option (List ℕ) → Option (List ℕ)
unless_later r key (Some value) = Some value
unless_later r key None = if bytes_eq r.key key then Some r.value else None

-- the value of the last record with this key
abbrev pub map : List Record → List ℕ → Option (List ℕ)
map [] key = None
map (r ∷ records) key = unless_later r key (map records key)

abbrev pub found : ℕ → Option (List ℕ) → Answer
found version (Some value) = Found version value
found version None = Missing version

-- the answer on these records, of which there may be so many
abbrev pub answer : List Record → ℕ → Asked → Answer
answer records limit (Request_of (Put key value)) = if nat_le limit (length records) then Full (length records) else Stored (length records + 1) value
answer records limit (Request_of (Get key)) = found (length records) (map records key)
answer records limit (Request_of End) = Bye
answer records limit (Refused_end code) = Refused code

-- the record, if any, that the request of this link with this index adds
abbrev pub added : List Record → ℕ → ℕ → ℕ → Asked → List Record
added records limit link index (Request_of (Put key value)) =
    if nat_le limit (length records) then [] else record { link = link; index = index; key = key; value = value } ∷ []
added records limit link index other = []

-- all replies to a link, and all records that it added
pub record Effect : Type 0 where
  pub replies : List Reply
  pub records : List Record

-- What link 0 asks is answered in order by worker 0, whose sequence numbers count from 1; the first has this index.
abbrev pub serial_from : ℕ → List Record → ℕ → List Asked → Effect
serial_from index records limit [] = record { replies = []; records = [] }
serial_from index records limit (ask ∷ asks) =
    let new = added records limit 0 index ask in
    let rest = serial_from (index + 1) (records ++ new) limit asks in
    record {
      replies = record { worker = 0; sequence = index + 1; answer = answer records limit ask } ∷ rest.replies;
      records = new ++ rest.records;
    }

abbrev pub serial : List Record → ℕ → List Asked → Effect
serial records limit asks = serial_from 0 records limit asks
