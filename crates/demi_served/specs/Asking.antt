-- What the operations of the store's port ask, and what the store says to them.
use Rattle.std.specs.Prelude.{◌≡◌, ℕ, Bool, List, [], slice_get, Option, Some, None}
use Rattle.demi_logq.specs.Folding.{bytes_of}
use Rattle.demi_spec.specs.Request.{Put, Get, End}
use Rattle.demi_spec.specs.Input.{Asked, Request_of, Refused_end}
use Rattle.demi_spec.specs.Record.{Record}
use Rattle.demi_spec.specs.Reply.{Answer, Stored, Found, Missing, Refused, Bye, Full}
use Rattle.demi_store.specs.History.{Said, Told, record_of_put}
use Rattle.demi_store.specs.Laws.{StoreBasis, ValueIs, said_to}
use Rattle.demi_store.specs.declared.answer.StoreAnswer.{StoreAnswer}
use Rattle.demi_store.specs.declared.answer.StoreAnswer.TheVariants as said
use Rattle.demi_store.specs.declared.ask.StoreAsk.{StoreAsk}
use Rattle.demi_store.specs.declared.back.Back.{Back}
use Rattle.demi_store.specs.declared.back.Back.TheVariants.{Nothing, Value, Room}
use Rattle.demi_store.specs.declared.op.StoreOp.{StoreOp}
use Rattle.demi_store.specs.declared.op.StoreOp.TheVariants as op
use Rattle.demi_store.specs.declared.out.StoreOut.{StoreOut}
use Rattle.demi_store.specs.declared.told.StoreTold.{StoreTold}

-- what is asked of the store: to keep the record of a put, to look a key up, or to stop
pub data Ask : Type 0 where
  Puts : (r : Record) → Ask
  Gets : (key : List ℕ) → Ask
  Stops : Ask

-- what an operation asks, without the room or the slots that come with it
abbrev pub asks_for : StoreOp → Ask
asks_for (op.Put link index key value) = Puts (record_of_put link index key value)
asks_for (op.Get key room) = Gets key.items
asks_for op.Stop = Stops

-- what is asked for a request of a link with this index, if the store is asked for it
abbrev pub ask_of : ℕ → ℕ → Asked → Option Ask
ask_of link index (Request_of (Put key value)) = Some (Puts (record { link = link; index = index; key = key; value = value }))
ask_of link index (Request_of (Get key)) = Some (Gets key)
ask_of link index (Request_of End) = None
ask_of link index (Refused_end code) = None

-- what is replied where the store is not asked
abbrev pub plain_answer : Asked → Answer
plain_answer (Request_of request) = Bye
plain_answer (Refused_end code) = Refused code

-- the operation at the place p is told this by the store, after the operations below it
pub record IsSaid (b : StoreBasis) (history : List StoreAsk) (trail : List (ℕ × StoreTold)) (p : ℕ) (said : Said) : Type 0 where
  pub asked : StoreAsk
  pub here : slice_get history p ≡ Some asked
  pub result : said_to b history trail p asked ≡ said

-- What is replied where the store says this: the same, but that of a value found in a log that does not tell its bytes
-- the number of its bytes alone is bound.
abbrev pub IsRepliedAs : Bool → Answer → Answer → Type 0
IsRepliedAs told (Found v value) a = (bytes : List ℕ) × (a ≡ Found v bytes) × ValueIs told value bytes
IsRepliedAs told said a = a ≡ said

-- the operation at the place p is told what is replied so
abbrev pub IsToldTo : StoreBasis → List StoreAsk → List (ℕ × StoreTold) → ℕ → Answer → Type 0
IsToldTo b history trail p a = (said : Answer) × IsSaid b history trail p (Told said) × IsRepliedAs b.told said a

-- what is replied for an outcome: its answer, with the bytes that came back
abbrev pub answer_with : StoreAnswer → Back → Option Answer
answer_with (said.Stored v) Nothing = Some (Stored v [])
answer_with (said.Stored v) (Value sga) = Some (Stored v (bytes_of sga))
answer_with (said.Found v) (Room room) = Some (Found v room.bytes)
answer_with (said.Missing v) back = Some (Missing v)
answer_with (said.Full v) back = Some (Full v)
answer_with answer back = None

abbrev pub reply_for : StoreOut → Option Answer
reply_for o = answer_with o.answer o.back
