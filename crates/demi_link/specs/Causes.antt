-- What a poll answers, and the event that is the cause of it.
use Rattle.std.specs.Prelude.{◌≡◌, ℕ, ◌≤◌, ◌⊎◌, ◌++◌, List, [], ◌∷◌}
use Rattle.demi_port_core.specs.declared.place.QToken.{QToken}
use Rattle.demi_sched.specs.declared.next.Next.{Next}
use Rattle.demi_sched.specs.declared.next.Next.TheVariants.{Wait, Yield, Ended}
use Rattle.demi_store.specs.declared.answer.StoreAnswer.TheVariants as said
use Rattle.demi_streamq.specs.declared.rx_out.RxOut.TheVariants as rx
use Rattle.demi_streamq.specs.declared.tx_out.TxOut.TheVariants as tx
use Rattle.demi_link.specs.Events.{Event, NoSlotFound, NoTokenFound, Gave, Busy, Gone, RxCame, TxCame, StoreCame, NumbersUsedUp}
use Rattle.demi_link.specs.declared.phase.Cause.{Cause}
use Rattle.demi_link.specs.declared.phase.Cause.TheVariants as cause
use Rattle.demi_link.specs.declared.phase.Phase.{Phase}
use Rattle.demi_link.specs.declared.phase.Phase.TheVariants.{Reading, Popping, Asking, Holding, Waiting, Replying, Sending, Pushing, Over, Between}

-- it waits for just this token
abbrev pub WaitsFor : QToken → Next → Type 0
WaitsFor token (Wait tokens) = tokens.items ≡ token ∷ []
WaitsFor token Yield = ⊥
WaitsFor token Ended = ⊥

abbrev pub IsYield : Next → Type 0
IsYield Yield = Unit {0}
IsYield (Wait tokens) = ⊥
IsYield Ended = ⊥

abbrev pub IsEnded : Next → Type 0
IsEnded Ended = Unit {0}
IsEnded (Wait tokens) = ⊥
IsEnded Yield = ⊥

-- what a poll answers that leaves a link there
abbrev pub Answers : Phase → Next → Type 0
Answers Reading next = IsYield next
Answers (Popping token) next = WaitsFor token next
Answers (Asking kind) next = IsYield next
Answers (Holding half asked) next = IsYield next
Answers (Waiting token sequence half) next = WaitsFor token next
Answers (Replying draft) next = IsYield next
Answers (Sending sga behind) next = IsYield next
Answers (Pushing token behind) next = WaitsFor token next
Answers (Over cause) next = IsEnded next
Answers Between next = ⊥

-- the token was given for a submission, or was found still to come
abbrev pub IsFor : QToken → Event → Type 0
IsFor token (Gave t) = t ≡ token
IsFor token (Busy t) = t ≡ token
IsFor token other = ⊥

-- what a link is over for
abbrev pub EndsFor : Cause → Event → Type 0
EndsFor cause.Clean (RxCame rx.End) = Unit {0}
EndsFor cause.Bye (TxCame tx.Pushed) = Unit {0}
EndsFor (cause.Refused code) (TxCame tx.Pushed) = Unit {0}
EndsFor cause.ReadFault (RxCame (rx.Fault count)) = Unit {0}
EndsFor cause.ReadFault (RxCame (rx.Broken place)) = Unit {0}
EndsFor cause.WriteFault (TxCame (tx.Fault count)) = Unit {0}
EndsFor cause.WriteFault (TxCame (tx.Broken place)) = Unit {0}
EndsFor cause.LogFault (StoreCame said.Fault) = Unit {0}
EndsFor cause.LogFault (StoreCame (said.Broken place)) = Unit {0}
EndsFor cause.NoMemory (StoreCame said.NoMemory) = Unit {0}
EndsFor cause.Lost (Gone token) = Unit {0}
EndsFor cause.Lost (RxCame (rx.Stopped place)) = Unit {0}
EndsFor cause.Lost (RxCame rx.Halted) = Unit {0}
EndsFor cause.Lost (TxCame tx.Shut) = Unit {0}
EndsFor cause.Lost (TxCame tx.Closed) = Unit {0}
EndsFor cause.Lost (TxCame (tx.Stopped place)) = Unit {0}
EndsFor cause.Lost (TxCame tx.Halted) = Unit {0}
EndsFor cause.Lost (StoreCame (said.Stopped place)) = Unit {0}
EndsFor cause.Lost (StoreCame said.Halted) = Unit {0}
EndsFor cause.Lost NumbersUsedUp = Unit {0}
EndsFor cause event = ⊥

-- what an answer has its cause in: a token that was given or found still to come in this poll; a claim or a submission
-- that was refused in it; or what ends a link
abbrev pub IsCause : Phase → Event → Type 0
IsCause Reading e = e ≡ NoTokenFound
IsCause (Popping token) e = IsFor token e
IsCause (Asking kind) e = e ≡ NoSlotFound
IsCause (Holding half asked) e = e ≡ NoTokenFound
IsCause (Waiting token sequence half) e = IsFor token e
IsCause (Replying draft) e = e ≡ NoSlotFound
IsCause (Sending sga behind) e = e ≡ NoTokenFound
IsCause (Pushing token behind) e = IsFor token e
IsCause (Over cause) e = EndsFor cause e
IsCause Between e = ⊥

-- The last event since then is such.
pub record LastIs (P : Event → Type 0) (before after : List Event) : Type 0 where
  pub more : List Event
  pub last : Event
  pub all : after ≡ before ++ more ++ last ∷ []
  pub is : P last

-- the last event is the cause of the answer; but a link is lost, too, that has had as many requests as can be numbered
abbrev pub Caused : List Event → List Event → ℕ → Phase → Type 0
Caused before after index (Over cause.Lost) = LastIs (EndsFor cause.Lost) before after ⊎ (4294967295 ≤ index)
Caused before after index phase = LastIs (IsCause phase) before after
