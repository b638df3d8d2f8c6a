-- How what a link did agrees with its worker's passes, and with where it stands.
use Rattle.std.specs.Prelude.{◌≡◌, ℕ, ◌+◌, ◌-◌, ◌<◌, ◌≤◌, ◌⊎◌, true, List, [], ◌∷◌, ◌++◌, Option, Some, None, length, map, slice_get, IfSome}
use Rattle.std.specs.List.{AllByRecursion}
use Rattle.demi_device.specs.Serving.{RiseFrom}
use Rattle.demi_frame.specs.Reading.{HasRead}
use Rattle.demi_frame.specs.declared.decoder.Step.TheVariants as step
use Rattle.demi_heap.specs.Seen.{HalfValue, HeapId}
use Rattle.demi_port_core.specs.History.{Among}
use Rattle.demi_port_core.specs.declared.place.QToken.{QToken}
use Rattle.demi_buf.specs.declared.class.Class.TheVariants.{Small, Large}
use Rattle.demi_sga.specs.Arrays.{AreOf, LentValue}
use Rattle.demi_spec.specs.Request.{Put, Get, End, IsRequest}
use Rattle.demi_spec.specs.Input.{Asked, Request_of, Refused_end, Parses}
use Rattle.demi_spec.specs.Input as ends
use Rattle.demi_spec.specs.Reply.{Answer, Reply, IsReply, Stored, Found, Missing, Full, Bye, spelling}
use Rattle.demi_store.specs.Laws.{Admits, IsProperOp}
use Rattle.demi_store.specs.declared.answer.StoreAnswer.{StoreAnswer}
use Rattle.demi_store.specs.declared.answer.StoreAnswer.TheVariants as said
use Rattle.demi_store.specs.declared.op.StoreOp.{StoreOp}
use Rattle.demi_store.specs.declared.op.StoreOp.TheVariants as op
use Rattle.demi_store.specs.declared.out.StoreOut.{StoreOut}
use Rattle.demi_streamq.specs.Receiving.{RxAdmits, IsFrom}
use Rattle.demi_streamq.specs.RxKept.{IsEnd, all_bytes, pieces_of}
use Rattle.demi_streamq.specs.Sending.{TxAdmits, array_bytes}
use Rattle.demi_streamq.specs.declared.rx_op.RxOp.{RxOp}
use Rattle.demi_streamq.specs.declared.rx_op.RxOp.TheVariants as rx
use Rattle.demi_streamq.specs.declared.rx_out.RxOut.{RxOut}
use Rattle.demi_streamq.specs.declared.rx_told.RxTold.{RxTold}
use Rattle.demi_streamq.specs.declared.tx_op.TxOp.{TxOp}
use Rattle.demi_streamq.specs.declared.tx_op.TxOp.TheVariants as tx
use Rattle.demi_streamq.specs.declared.tx_out.TxOut.{TxOut}
use Rattle.demi_streamq.specs.declared.tx_out.TxOut.TheVariants.{Pushed}
use Rattle.demi_served.specs.Asking.{asks_for, ask_of}
use Rattle.demi_served.specs.Keeps.{WorkerKeeps, LinkKeeps, IsDrawn, IsReplied, of_link, numbered}
use Rattle.demi_served.specs.Writing.{texts_of}
use Rattle.demi_link.specs.Dues.{AllDue, AllMore, IsDue}
use Rattle.demi_link.specs.Heard.{CameAt, IsLogFault, IsMemoryFault, IsReadFault, IsWriteFault, LastCame, WasTold}
use Rattle.demi_link.specs.Noting.{after_taken}
use Rattle.demi_link.specs.Sights.{Redeems, Side, Sight, nothing_due, one_ask_due, one_pop_due, one_push_due, worker_of}
use Rattle.demi_link.specs.Stores.{halves_in, halves_back}
use Rattle.demi_link.specs.Talks.{DeskValue, TalkValue, read_by}
use Rattle.demi_link.specs.declared.phase.Cause.{Cause}
use Rattle.demi_link.specs.declared.phase.Cause.TheVariants as cause
use Rattle.demi_link.specs.declared.phase.Draft.{Draft}
use Rattle.demi_link.specs.declared.phase.Kind.{Kind}
use Rattle.demi_link.specs.declared.phase.Kind.TheVariants as kind
use Rattle.demi_link.specs.declared.phase.Phase.{Phase}
use Rattle.demi_link.specs.declared.phase.Phase.TheVariants.{Reading, Popping, Asking, Holding, Waiting, Replying, Sending, Pushing, Over, Between}

abbrev pub places : {X : Type 0} → List (ℕ × X) → List ℕ
places [] = []
places (x ∷ xs) = x.0 ∷ places xs

-- what was submitted, in order
abbrev pub ops_of : {D : Type 0} → List (ℕ × (ℕ × D)) → List D
ops_of [] = []
ops_of (x ∷ xs) = x.1.1 ∷ ops_of xs

-- the outcome is admitted by what the pass was handed, and is final there
abbrev pub IsTaken : Side RxOp RxTold → ℕ × RxOut → Type 0
IsTaken p o = RxAdmits p.known.heard p.known.told o.0 o.1 × (o.0 < p.known.floor)

-- The pops at the link's receiving port are just the link's, by rising places, and the outcomes that it had are admitted.
pub record Reads (p : Side RxOp RxTold) (k : TalkValue) : Type 0 where
  pub pops : AllByRecursion (λ x. x.1.1 ≡ rx.Pop 4096) p.submitted
  pub rises : RiseFrom 0 p.submitted
  pub below : AllByRecursion (λ x. x.0 < p.seen) p.submitted
  pub taken : AllByRecursion (IsTaken p) k.outs

abbrev pub IsPush : TxOp → Type 0
IsPush (tx.Push sga) = Unit {0}
IsPush tx.Close = ⊥
IsPush tx.Stop = ⊥

-- the push at this place was written, by what the pass was handed
abbrev pub IsWritten : Side TxOp ℕ → ℕ → Type 0
IsWritten p place = TxAdmits p.known.heard p.known.told place Pushed × (place < p.known.floor)

-- The operations at the link's sending port are just the pushes of the link's replies, by rising places, each with the
-- spelling of its reply, and those that the link knows written are.
pub record Writes (p : Side TxOp ℕ) (k : TalkValue) : Type 0 where
  pub pushes : AllByRecursion (λ x. IsPush x.1.1) p.submitted
  pub texts : texts_of (ops_of p.submitted) ≡ map spelling k.kept.replies
  pub rises : RiseFrom 0 p.submitted
  pub below : AllByRecursion (λ x. x.0 < p.seen) p.submitted
  pub written : AllByRecursion (IsWritten p) k.written

-- the decoder refused a frame with this code, or the input has ended
abbrev pub IsFinal : ℕ → DeskValue → Type 0
IsFinal code d = (d.decoder.stop ≡ Some (step.Refused code)) ⊎ LastCame IsEnd d.talk.outs

-- What a link keeps of its worker: its draws, its replies, its two ports, that its decoder has handed out what it was fed,
-- and that each of its pops was due.
pub record Keeps (s : Sight) (d : DeskValue) : Type 0 where
  pub own : of_link d.link s.draws ≡ numbered d.link 0 d.talk.kept.drawn
  pub kept : LinkKeeps s.base (worker_of s) d.link d.talk.kept
  pub fits : AllByRecursion IsReply d.talk.kept.replies
  pub number : (d.talk.kept.worker ≡ s.number) × (d.worker ≡ s.number) × (s.number ≤ 255)
  pub index : d.index ≡ length d.talk.kept.drawn
  pub reads : Reads s.rx d.talk
  pub writes : Writes s.tx d.talk
  pub read : HasRead (all_bytes d.talk.outs) d.talk.handed d.decoder
  pub refusal : IfSome d.talk.refused (λ code. Parses d.talk.handed (ends.Refused code) true (all_bytes d.talk.outs))
  pub final : IfSome d.talk.refused (λ code. IsFinal code d)
  pub due : AllDue d.talk

-- each pop came to its outcome
abbrev pub AllTaken : Sight → DeskValue → Type 0
AllTaken s d = places s.rx.submitted ≡ places d.talk.outs

-- each push was written
abbrev pub AllWritten : Sight → DeskValue → Type 0
AllWritten s d = places s.tx.submitted ≡ d.talk.written

-- for each request that was read a number was drawn, and each has its reply
abbrev pub IsEven : TalkValue → Type 0
IsEven k = (read_by k ≡ k.kept.drawn) × (length k.kept.replies ≡ length k.kept.drawn)

-- the last request that was read is at hand: each other has its number and its reply
abbrev pub IsAtHand : TalkValue → Type 0
IsAtHand k = (read_by k ≡ k.kept.drawn ++ k.request ∷ []) × (length k.kept.replies ≡ length k.kept.drawn)

-- the last request that was read has its number, but no reply
abbrev pub IsAsked : TalkValue → Type 0
IsAsked k = (read_by k ≡ k.kept.drawn) × (length k.kept.drawn ≡ length k.kept.replies + 1) × (slice_get k.kept.drawn (length k.kept.replies) ≡ Some k.request)

-- the input goes on
abbrev pub GoesOn : DeskValue → Type 0
GoesOn d = (d.talk.refused ≡ None) × (d.decoder.stop ≡ None) × AllMore d.talk.outs

-- one more request can be numbered
abbrev pub HasRoom : DeskValue → Type 0
HasRoom d = d.index < 4294967295

-- the request at hand is of this kind, and the decoder has its key and value
abbrev pub IsKind : Kind → DeskValue → Type 0
IsKind kind.Put d = GoesOn d × ((key : List ℕ) × (value : List ℕ) × (d.talk.request ≡ Request_of (Put key value)) × (d.decoder.last ≡ Some (Put key value)) × IsRequest (Put key value))
IsKind kind.Get d = GoesOn d × ((key : List ℕ) × (d.talk.request ≡ Request_of (Get key)) × (d.decoder.last ≡ Some (Get key)) × IsRequest (Get key))
IsKind kind.Bye d = (d.talk.request ≡ Request_of End) × (d.talk.refused ≡ None) × (d.decoder.stop ≡ Some step.End)
IsKind (kind.Refused code) d = (d.talk.request ≡ Refused_end code) × (d.talk.refused ≡ Some code)

-- behind the reply at hand the link goes on, or it is over for this cause
abbrev pub IsBehind : Option Cause → DeskValue → Type 0
IsBehind None d = GoesOn d
IsBehind (Some cause.Bye) d = (d.talk.request ≡ Request_of End) × (d.talk.refused ≡ None) × (d.decoder.stop ≡ Some step.End)
IsBehind (Some (cause.Refused code)) d = (d.talk.request ≡ Refused_end code) × (d.talk.refused ≡ Some code)
IsBehind (Some other) d = ⊥

-- the halves of an operation are of this heap, and the lent halves are those of its value
abbrev pub HasHalves : HeapId → Option LentValue → StoreOp → Type 0
HasHalves heap None (op.Put link index key None) = Unit {0}
HasHalves heap (Some half) (op.Put link index key (Some sga)) = (half.segments ≡ sga) × (half.back ≡ 0) × AreOf heap sga × (length sga ≡ 1)
HasHalves heap None (op.Get key room) = (room.heap ≡ heap) × (room.class ≡ Large)
HasHalves heap half other = ⊥

-- the application halves that are lent
abbrev pub lent_out : Option LentValue → ℕ
lent_out None = 0
lent_out (Some half) = length half.segments

-- the segments of a reply behind its head
abbrev pub body_of : Option (List HalfValue) → List HalfValue
body_of None = []
body_of (Some sga) = sga

-- what is replied for an answer of the store, with these bytes
abbrev pub answer_as : StoreAnswer → List ℕ → Answer
answer_as (said.Stored version) bytes = Stored version bytes
answer_as (said.Found version) bytes = Found version bytes
answer_as (said.Missing version) bytes = Missing version
answer_as (said.Full version) bytes = Full version
answer_as other bytes = Bye

-- the answer is replied, and has a body where it may have one
abbrev pub IsSent : StoreAnswer → Option (List HalfValue) → Type 0
IsSent (said.Stored version) body = Unit {0}
IsSent (said.Found version) body = Unit {0}
IsSent (said.Missing version) body = body ≡ None
IsSent (said.Full version) body = body ≡ None
IsSent other body = ⊥

-- the reply of this worker that a draft says
abbrev pub reply_as : ℕ → Draft → Reply
reply_as worker draft = record { worker = worker; sequence = draft.sequence; answer = answer_as draft.answer (array_bytes (body_of draft.body)) }

-- The store was asked the request at hand with this token and number.
pub record IsPending (s : Sight) (d : DeskValue) (token sequence : ℕ) (half : Option LentValue) : Type 0 where
  pub asked : StoreOp
  pub asks : ask_of d.link (length d.talk.kept.replies) d.talk.request ≡ Some (asks_for asked)
  pub proper : IsProperOp asked
  pub halves : HasHalves s.heap half asked
  pub place : ℕ
  pub here : Among (place, (token, record { sequence = sequence; op = asked })) s.store.submitted
  pub drawn : IsDrawn s.draws sequence (record { link = d.link; index = length d.talk.kept.replies; request = d.talk.request })

-- The reply at hand is that of the request at hand.
pub record IsReady (s : Sight) (d : DeskValue) : Type 0 where
  pub worker : d.talk.reply.worker ≡ d.talk.kept.worker
  pub drawn : IsDrawn s.draws d.talk.reply.sequence (record { link = d.link; index = length d.talk.kept.replies; request = d.talk.request })
  pub replied : IsReplied s.base (worker_of s) d.talk.request d.talk.reply (ask_of d.link (length d.talk.kept.replies) d.talk.request)

-- Each pop but the last, which has this token, came to its outcome.
pub record IsPopping (s : Sight) (d : DeskValue) (token : ℕ) : Type 0 where
  pub place : ℕ
  pub last : places s.rx.submitted ≡ places d.talk.outs ++ place ∷ []
  pub here : Among (place, (token, rx.Pop 4096)) s.rx.submitted

-- Each push but the last, which has this token, was written.
pub record IsPushing (s : Sight) (d : DeskValue) (token : ℕ) : Type 0 where
  pub place : ℕ
  pub said : TxOp
  pub last : places s.tx.submitted ≡ d.talk.written ++ place ∷ []
  pub here : Among (place, (token, said)) s.tx.submitted

-- the store's answer to the last request is such
abbrev pub HeardOf : (StoreAnswer → Type 0) → Sight → DeskValue → Type 0
HeardOf P s d = WasTold P s.base (worker_of s) d.link (length d.talk.kept.replies) d.talk.request

-- What is so of a link that is over: where it was lost, nothing more than it keeps. Else each pop came to its outcome, no
-- half is left, no token is to be redeemed, and each push was written, but the last where a write failed; and it heard
-- why it is over.
abbrev pub IsOver : Sight → DeskValue → Cause → Type 0
IsOver s d cause.Clean = AllTaken s d × AllWritten s d × (s.out ≡ 0) × IsEven d.talk × Parses d.talk.handed ends.Clean true (all_bytes d.talk.outs) × (d.talk.refused ≡ None) × (s.due ≡ nothing_due) × LastCame IsEnd d.talk.outs
IsOver s d cause.Bye = AllTaken s d × AllWritten s d × (s.out ≡ 0) × IsEven d.talk × Parses d.talk.handed ends.EndFrame true (all_bytes d.talk.outs) × (d.talk.refused ≡ None) × (s.due ≡ nothing_due)
IsOver s d (cause.Refused code) = AllTaken s d × AllWritten s d × (s.out ≡ 0) × IsEven d.talk × Parses d.talk.handed (ends.Refused code) true (all_bytes d.talk.outs) × (d.talk.refused ≡ Some code) × (s.due ≡ nothing_due)
IsOver s d cause.ReadFault = AllTaken s d × AllWritten s d × (s.out ≡ 0) × IsEven d.talk × (d.talk.refused ≡ None) × (s.due ≡ nothing_due) × LastCame IsReadFault d.talk.outs
IsOver s d cause.WriteFault = AllTaken s d × ((place : ℕ) × (places s.tx.submitted ≡ d.talk.written ++ place ∷ []) × CameAt IsWriteFault s.tx place) × (s.out ≡ 0) × IsEven d.talk × (s.due ≡ nothing_due)
IsOver s d cause.LogFault = AllTaken s d × AllWritten s d × (s.out ≡ 0) × IsAsked d.talk × (d.talk.refused ≡ None) × (s.due ≡ nothing_due) × HeardOf IsLogFault s d
IsOver s d cause.NoMemory = AllTaken s d × AllWritten s d × (s.out ≡ 0) × IsAsked d.talk × (d.talk.refused ≡ None) × (s.due ≡ nothing_due) × HeardOf IsMemoryFault s d
IsOver s d cause.Lost = Unit {0}

-- how what a link did agrees with where it stands, on so many ports
abbrev pub Agrees : ℕ → Sight → DeskValue → Phase → Type 0
Agrees ports s d Reading = GoesOn d × IsEven d.talk × AllTaken s d × AllWritten s d × (s.out ≡ 0) × (s.due ≡ nothing_due)
Agrees ports s d (Popping token) = GoesOn d × IsEven d.talk × HasRoom d × (d.decoder.hungry ≡ true) × (token.port < ports) × IsPopping s d token.token.0 × AllWritten s d × (s.out ≡ 0) × (s.due ≡ one_pop_due)
    × IsDue d.talk.handed d.talk.written d.talk.outs
Agrees ports s d (Asking kind) = IsKind kind d × HasRoom d × IsAtHand d.talk × AllTaken s d × AllWritten s d × (s.out ≡ 0) × (s.due ≡ nothing_due)
Agrees ports s d (Holding half asked) = GoesOn d × HasRoom d × IsAtHand d.talk × AllTaken s d × AllWritten s d × (s.out ≡ lent_out half + halves_in asked)
    × (ask_of d.link d.index d.talk.request ≡ Some (asks_for asked)) × IsProperOp asked × HasHalves s.heap half asked × (s.due ≡ nothing_due)
Agrees ports s d (Waiting token sequence half) = GoesOn d × IsAsked d.talk × AllTaken s d × AllWritten s d × (s.out ≡ lent_out half) × (token.port < ports) × IsPending s d token.token.0 sequence half × (s.due ≡ one_ask_due)
Agrees ports s d (Replying draft) = GoesOn d × IsAsked d.talk × AllTaken s d × AllWritten s d × (s.out ≡ length (body_of draft.body)) × IsReady s d × AreOf s.heap (body_of draft.body) × (length (body_of draft.body) ≤ 1)
    × (length (array_bytes (body_of draft.body)) ≤ 65536) × IsSent draft.answer draft.body × (d.talk.reply ≡ reply_as d.talk.kept.worker draft) × (s.due ≡ nothing_due)
Agrees ports s d (Sending sga behind) = IsBehind behind d × IsAsked d.talk × AllTaken s d × AllWritten s d × (s.out ≡ length sga) × IsReady s d × AreOf s.heap sga × (array_bytes sga ≡ spelling d.talk.reply) × IsReply d.talk.reply × (s.due ≡ nothing_due)
Agrees ports s d (Pushing token behind) = IsBehind behind d × IsEven d.talk × AllTaken s d × (token.port < ports) × IsPushing s d token.token.0 × (s.out ≡ 0) × (s.due ≡ one_push_due)
Agrees ports s d (Over cause) = IsOver s d cause
Agrees ports s d Between = ⊥

-- The phase agrees with what the link did, which it keeps, and its worker keeps its own.
pub record Fits (ports : ℕ) (s : Sight) (d : DeskValue) (phase : Phase) : Type 0 where
  pub agrees : Agrees ports s d phase
  pub worker : WorkerKeeps (worker_of s)
  pub keeps : Keeps s d

-- The pop of a link that waited for it came to this outcome, at this place.
pub record Took (ports : ℕ) (s : Sight) (d : DeskValue) (place : ℕ) (outcome : RxOut) : Type 0 where
  pub before : Sight
  pub token : QToken
  pub fits : Fits ports before d (Popping token)
  pub redeems : Redeems (λ h t p. RxAdmits h t p outcome × IsFrom before.heap outcome) token.token.0 place before.rx s.rx
  pub is : s ≡ record before { rx = s.rx; out = before.out + pieces_of outcome; due = record before.due { rx = before.due.rx - 1 } }

-- The store's operation of a link that waited for it came to this outcome.
pub record Told (ports : ℕ) (s : Sight) (d : DeskValue) (sequence : ℕ) (half : Option LentValue) (outcome : StoreOut) : Type 0 where
  pub before : Sight
  pub token : QToken
  pub place : ℕ
  pub fits : Fits ports before d (Waiting token sequence half)
  pub redeems : Redeems (λ h t p. Admits before.base h t p outcome) token.token.0 place before.store s.store
  pub is : s ≡ record before { store = s.store; out = before.out + halves_back outcome; due = record before.due { store = before.due.store - 1 } }

-- The push of a link that waited for it came to this outcome, at this place.
pub record Wrote (ports : ℕ) (s : Sight) (d : DeskValue) (place : ℕ) (behind : Option Cause) (outcome : TxOut) : Type 0 where
  pub before : Sight
  pub token : QToken
  pub fits : Fits ports before d (Pushing token behind)
  pub redeems : Redeems (λ h t p. TxAdmits h t p outcome) token.token.0 place before.tx s.tx
  pub is : s ≡ record before { tx = s.tx; due = record before.due { tx = before.due.tx - 1 } }

-- The link has noted the outcome of its pop, and its decoder was not told yet.
pub record Noted (ports : ℕ) (s : Sight) (d : DeskValue) (outcome : RxOut) : Type 0 where
  pub was : TalkValue
  pub now : d.talk ≡ after_taken was was.place outcome
  pub took : Took ports s (record d { talk = was }) was.place outcome

-- a small half of this heap
abbrev pub IsSmall : HeapId → HalfValue → Type 0
IsSmall heap half = (half.heap ≡ heap) × (half.class ≡ Small)

-- The link asked its decoder, which has no more: a pop is due.
pub record IsHungry (ports : ℕ) (s : Sight) (d : DeskValue) : Type 0 where
  pub reading : Fits ports s d Reading
  pub room : HasRoom d
  pub hungry : d.decoder.hungry ≡ true
  pub due : IsDue d.talk.handed d.talk.written d.talk.outs

-- The link stands there, and has claimed so many more halves.
pub record HasClaimed (ports : ℕ) (s : Sight) (d : DeskValue) (phase : Phase) (count : ℕ) : Type 0 where
  pub before : Sight
  pub fits : Fits ports before d phase
  pub is : s ≡ record before { out = before.out + count }

-- the link, with the reply that a draft says at hand
abbrev pub with_reply : DeskValue → Draft → DeskValue
with_reply d draft = record d { talk = record d.talk { reply = reply_as d.talk.kept.worker draft } }

abbrev pub HasEnded : Phase → Type 0
HasEnded Reading = ⊥
HasEnded (Popping token) = ⊥
HasEnded (Asking kind) = ⊥
HasEnded (Holding half asked) = ⊥
HasEnded (Waiting token sequence half) = ⊥
HasEnded (Replying draft) = ⊥
HasEnded (Sending sga behind) = ⊥
HasEnded (Pushing token behind) = ⊥
HasEnded (Over cause) = Unit {0}
HasEnded Between = ⊥
