-- What the auditor answers: the first reply, or else the first record, that no one store explains.
use Rattle.std.specs.Prelude.{◌≡◌, ℕ, ◌+◌, ◌-◌, Bool, true, false, not, ◌&&◌, ◌||◌, ◌==◌, nat_lt, nat_le, if◌then◌else◌, List, [], ◌∷◌, ◌++◌, length, take, drop, flat_map, slice_get, count_by, Option, Some, None, bytes_eq}
use Rattle.std.specs.List.{AllByRecursion, AllZip, list_any}
use Rattle.demi_spec.specs.Request.{Put, Get, End}
use Rattle.demi_spec.specs.Input.{Asked, Request_of, Refused_end, asked}
use Rattle.demi_spec.specs.Reply as reply
use Rattle.demi_spec.specs.Reply.{Answer, Reply, IsReply, Stored, Found, Missing, Bye, Full, spelling}
use Rattle.demi_spec.specs.Record.{Record}
use Rattle.demi_spec.specs.Store.{map}
use Rattle.demi_served.specs.Talks.{Run, LinkRun, Talk}
use Rattle.demi_served.specs.Answers.{version_of, is_stored}
use Rattle.demi_served.specs.Served.{same_worker, stored_as}

-- replies and records are named as the auditor names them: replies of a link from 0, records from 1
pub data Fault : Type 0 where
  ReplyAt : (link index : ℕ) → Fault
  EntryAt : (version : ℕ) → Fault

-- what a link asked, the replies at the front of its output, and what follows them
pub record Heard : Type 0 where
  pub talk : Talk
  pub rest : List ℕ

-- no whole reply stands at the front of a text
abbrev pub NoReply : List ℕ → Type 0
NoReply text = (r : Reply) (more : List ℕ) → IsReply r → text ≡ spelling r ++ more → ⊥

-- The replies were read from the front of a link's output as long as one stood there.
pub record HeardOf (link : LinkRun) (h : Heard) : Type 0 where
  pub asks : h.talk.asks ≡ asked link.read link.ended
  pub fits : AllByRecursion IsReply h.talk.replies
  pub text : link.written ≡ flat_map spelling h.talk.replies ++ h.rest
  pub none : NoReply h.rest

-- what was heard of each link
abbrev pub HeardAll : List LinkRun → List Heard → Type 0
HeardAll links heard = AllZip HeardOf links heard

abbrev pub is_record : Option Record → ℕ → ℕ → List ℕ → List ℕ → Bool
is_record None link index key value = false
is_record (Some r) link index key value = r.link == link && (r.index == index && (bytes_eq r.key key && bytes_eq r.value value))

abbrev pub is_value : Option (List ℕ) → Option (List ℕ) → Bool
is_value None None = true
is_value (Some a) (Some b) = bytes_eq a b
is_value a b = false

-- Whether an answer is the one to a request. A stored put names its own record, which is new and has its link, its
-- index, its key and its value; a full store has as many records as it may have; a get names so many records, of which
-- the last with its key has the value; a bye answers an end frame, and a refusal a refused end with its code.
abbrev pub answers : Run → ℕ → ℕ → Asked → Answer → Bool
answers run link index (Request_of (Put key value)) (Stored v bytes) =
    nat_lt run.old v && (nat_le v (length run.records) && (nat_le v run.limit && (bytes_eq bytes value && is_record (slice_get run.records (v - 1)) link index key value)))
answers run link index (Request_of (Put key value)) (Full v) = nat_le run.old v && (nat_le run.limit v && nat_le v (length run.records))
answers run link index (Request_of (Get key)) (Found v bytes) =
    nat_le run.old v && (nat_le v (length run.records) && is_value (map (take v run.records) key) (Some bytes))
answers run link index (Request_of (Get key)) (Missing v) =
    nat_le run.old v && (nat_le v (length run.records) && is_value (map (take v run.records) key) None)
answers run link index (Request_of End) Bye = true
answers run link index (Refused_end code) (reply.Refused said) = said == code
answers run link index q a = false

-- whether the second of two versions is below the first, or not above it where it has to be
abbrev pub falls_by : Bool → Option ℕ → Option ℕ → Bool
falls_by strict (Some v) (Some w) = nat_lt w v || (strict && w == v)
falls_by strict v w = false

-- whether a reply's version falls below that of an earlier one of its link; a stored put's has to be above it
abbrev pub falls : Reply → Reply → Bool
falls later earlier = falls_by (is_stored later.answer) (version_of earlier.answer) (version_of later.answer)

-- whether an earlier reply has this worker and this sequence number
abbrev pub repeats : Reply → Reply → Bool
repeats later earlier = same_worker later earlier && earlier.sequence == later.sequence

-- whether a reply of the same worker with a lower sequence number has a greater version
abbrev pub lags : Reply → Reply → Bool
lags r other = same_worker r other && (nat_lt other.sequence r.sequence && falls_by false (version_of other.answer) (version_of r.answer))

-- what is looked at beside a reply and its request: all replies of all links, those before it, and those before it on
-- its link
pub record Around : Type 0 where
  pub all : List Reply
  pub before : List Reply
  pub mine : List Reply

abbrev pub next_to : Around → Reply → Around
next_to a r = record { all = a.all; before = a.before ++ r ∷ []; mine = a.mine ++ r ∷ [] }

-- Whether a reply is consistent with all else: it answers its request; along its link its version does not fall; its
-- sequence number is from 1 to the number of its worker's replies; no earlier reply has the same; and no reply of its
-- worker with a lower number has a greater version.
abbrev pub is_right : Run → Around → ℕ → ℕ → Asked → Reply → Bool
is_right run a link index q r =
    answers run link index q r.answer
    && (not (list_any (falls r) a.mine)
    && (nat_lt 0 r.sequence
    && (nat_le r.sequence (count_by (same_worker r) a.all)
    && (not (list_any (repeats r) a.before)
    && not (list_any (lags r) a.all)))))

-- the first index at which a link is wrong; the first reply here has this index, and these bytes follow the last
abbrev pub link_fault : Run → Around → ℕ → ℕ → List ℕ → List Asked → List Reply → Option ℕ
link_fault run a link index [] [] [] = None
link_fault run a link index (b ∷ rest) [] [] = Some index
link_fault run a link index rest [] (r ∷ replies) = Some index
link_fault run a link index rest (q ∷ asks) [] = Some index
link_fault run a link index rest (q ∷ asks) (r ∷ replies) =
    if is_right run a link index q r then link_fault run (next_to a r) link (index + 1) rest asks replies else Some index

abbrev pub at_link : ℕ → Option ℕ → Option Fault → Option Fault
at_link link (Some index) later = Some (ReplyAt link index)
at_link link None later = later

-- the first fault of the links, of which the first here has this number, or else the later one
abbrev pub links_fault : Run → List Reply → List Reply → ℕ → List Heard → Option Fault → Option Fault
links_fault run all before link [] later = later
links_fault run all before link (h ∷ links) later =
    at_link link (link_fault run (record { all = all; before = before; mine = [] }) link 0 h.rest h.talk.asks h.talk.replies)
    (links_fault run all (before ++ h.talk.replies) (link + 1) links later)

-- the first record that is not that of a stored reply; the first here has this number
abbrev pub records_fault : List Reply → ℕ → List Record → Option Fault
records_fault all v [] = None
records_fault all v (r ∷ records) = if list_any (stored_as v) all then records_fault all (v + 1) records else Some (EntryAt v)

-- all replies that were heard
abbrev pub said : List Heard → List Reply
said heard = flat_map (λ h. h.talk.replies) heard

-- The first fault of a session of which this was heard: replies come first, by link and by index, then the new records.
abbrev pub first_fault : Run → List Heard → Option Fault
first_fault run heard = links_fault run (said heard) [] 0 heard (records_fault (said heard) (run.old + 1) (drop run.old run.records))
