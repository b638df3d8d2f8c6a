-- A session of one link, by what the world tells of the link and the log that it gave and keeps.
use Rattle.std.specs.Prelude.{◌≡◌, ℕ, List, [], ◌∷◌, Option}
use Rattle.demi_core.specs.World.{Link, Log, WorldState}
use Rattle.demi_link.specs.declared.phase.Cause.{Cause}
use Rattle.demi_link.specs.declared.phase.Cause.TheVariants as cause
use Rattle.demi_served.specs.Ends.{StoreEnd}
use Rattle.demi_server.specs.Session.{RanOne, RxEndValue, TxEndValue}
use Rattle.demi_server.specs.declared.outcome.Outcome.{Outcome as SessionOutcome}
use Rattle.demi_server.specs.declared.outcome.Outcome.TheVariants as session
use Rattle.demi_cli.specs.Given.{LinkOf, LogOf}
use Rattle.demi_cli.specs.Outcome.{status_of}
use Rattle.demi_cli.specs.declared.outcome.Outcome.{Outcome}
use Rattle.demi_cli.specs.declared.outcome.Outcome.TheVariants as outcome

-- a source and a sink as what they tell
abbrev pub link_at : {I O : Type 0} → (I → ℕ) → (I → Option (List ℕ)) → (I → ℕ) → (O → Option (List ℕ)) → (O → ℕ) → I × O → Link
link_at taken left read_faults written write_faults p =
    record { taken = taken p.0; left = left p.0; read_faults = read_faults p.0; written = written p.1; write_faults = write_faults p.1 }

-- the ends of a session's ports: the store's, and those that received and sent, link by link
pub record SessionEnds : Type 0 where
  pub service : StoreEnd
  pub rx : List RxEndValue
  pub tx : List TxEndValue

-- A session with this limit over this link and this log, as they told before it and after it, came to this outcome and has these ends: every reply and
-- every record is accounted for by the histories that these have.
abbrev pub SessionOver : ℕ → Link → Link → Log → Log → SessionOutcome → SessionEnds → Type 0
SessionOver limit link kept log kept_log o ends =
    RanOne (λ (l : Link). l.taken) (λ (l : Link). l.left) (λ (l : Link). l.read_faults) (λ (l : Link). l.written) (λ (l : Link). l.write_faults)
    (λ (d : Log). d.bytes) (λ (d : Log). d.held) (λ (d : Log). d.faults)
    limit ((link, link) ∷ []) ((kept, kept) ∷ []) log kept_log o ends.service ends.rx ends.tx

-- the outcome of a run whose session came to this one
abbrev pub as_outcome : SessionOutcome → Outcome
as_outcome session.Served = outcome.Done
as_outcome (session.BadLog at) = outcome.BadLog at
as_outcome session.NoMemory = outcome.NoMemory
as_outcome session.LogFault = outcome.LogFault
as_outcome (session.ReadFault link) = outcome.ReadFault
as_outcome (session.WriteFault link) = outcome.WriteFault
as_outcome (session.Refused link code) = outcome.Refused code

-- the link and the log that the world gave and keeps, the session over them and its ends, and the status by its outcome
pub record AccountedRun (limit : ℕ) (status : ℕ) (old new : WorldState) (name : List ℕ) (ends : SessionEnds) : Type 0 where
  pub of_log : LogOf old new name
  pub of_link : LinkOf old new
  pub came_to : SessionOutcome
  pub status_is : status ≡ status_of (as_outcome came_to)
  pub ran : SessionOver limit of_link.link of_link.kept of_log.log of_log.kept came_to ends

-- a link that stopped before its input came to an end
abbrev pub IsFault : Cause → Type 0
IsFault cause.ReadFault = Unit {0}
IsFault cause.WriteFault = Unit {0}
IsFault cause.LogFault = Unit {0}
IsFault cause.NoMemory = Unit {0}
IsFault other = ⊥

-- the outcome of a run whose link ended so
abbrev pub outcome_by : Cause → Outcome
outcome_by cause.Clean = outcome.Done
outcome_by cause.Bye = outcome.Done
outcome_by (cause.Refused code) = outcome.Refused code
outcome_by cause.ReadFault = outcome.ReadFault
outcome_by cause.WriteFault = outcome.WriteFault
outcome_by cause.LogFault = outcome.LogFault
outcome_by cause.NoMemory = outcome.NoMemory
outcome_by cause.Lost = outcome.Done
