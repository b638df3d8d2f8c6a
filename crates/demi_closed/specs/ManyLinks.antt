-- What a session of any number of links and workers comes to.
use Rattle.std.specs.Prelude.{◌≡◌, ◌⊎◌, ℕ, true, List, [], ◌∷◌, Some, flat_map, length, slice_get}
use Rattle.std.specs.List.{AllByRecursion, AllZip}
use Rattle.demi_port.specs.Seen.{known_by}
use Rattle.demi_spec.specs.Record.{Record}
use Rattle.demi_spec.specs.Reply.{spelling}
use Rattle.demi_store.specs.Laws.{StoreBasis}
use Rattle.demi_store.specs.declared.ask.StoreAsk.{StoreAsk}
use Rattle.demi_store.specs.declared.told.StoreTold.{StoreTold}
use Rattle.demi_served.specs.Accounts.{Accounted, StoreEntry}
use Rattle.demi_served.specs.Ends.{StorePass}
use Rattle.demi_served.specs.Keeps.{Draw, Worker, WorkerKeeps}
use Rattle.demi_served.specs.Links.{AllEnded, LinkPorts}
use Rattle.demi_served.specs.Served.{Served, Whole}
use Rattle.demi_served.specs.Steps.{GoesBeside}
use Rattle.demi_served.specs.Talks.{LinkRun, Run, Talk}
use Rattle.demi_link.specs.Ends.{IsDone}
use Rattle.demi_link.specs.Sights.{Side, Sight, side_of, worker_of}
use Rattle.demi_link.specs.Talks.{DeskValue}
use Rattle.demi_link.specs.declared.phase.Cause.{Cause}
use Rattle.demi_closed.specs.Closed.{Added}
use Rattle.demi_closed.specs.LinkClosed.{LinkResult, WasServed}
use Rattle.demi_closed.specs.OnlyLink.{store_stop}

-- A worker at a session's end: what the store that it asked stands on, what it had of its pass of the store's port and for what it had drawn its
-- sequence numbers once its links had ended, and what that pass is at last.
pub record WorkerEnd : Type 0 where
  pub base : StoreBasis
  pub store : Side StoreAsk StoreTold
  pub draws : List Draw
  pub pass : StorePass

-- the worker once its links had ended, and at last
abbrev pub worker_then : WorkerEnd → Worker
worker_then w = record { submitted = w.store.submitted; known = w.store.known; draws = w.draws }

abbrev pub worker_now : WorkerEnd → Worker
worker_now w = record { submitted = w.pass.submitted; known = known_by w.pass; draws = w.draws }

-- A link at a session's end: the number of its worker, what the worker had for it when it had ended, its coroutine's desk, and why it ended.
pub record LinkEnd : Type 0 where
  pub worker : ℕ
  pub had : Sight
  pub desk : DeskValue
  pub cause : Cause

-- the draw is for a link of the worker of this number
abbrev pub IsForLinkOf : List LinkEnd → ℕ → Draw → Type 0
IsForLinkOf links n x = (k : LinkEnd) × (slice_get links x.link ≡ Some k) × (k.worker ≡ n)

-- Over a store on this base it is the worker of this number: it kept its own, it drew numbers for its own links alone, and when its links had
-- ended it did nothing more at the store's port, or stopped it.
pub record IsWorkerOf (b : StoreBasis) (links : List LinkEnd) (n : ℕ) (w : WorkerEnd) : Type 0 where
  pub base : w.base ≡ b
  pub number : w.pass.number ≡ n
  pub keeps : WorkerKeeps (worker_then w)
  pub own : AllByRecursion (IsForLinkOf links n) w.draws
  pub left : (side_of w.pass ≡ w.store) ⊎ Added store_stop w.store w.pass

-- The link of this number was served by its worker, which then went on with others alone.
pub record IsServedBy (ports : ℕ) (workers : List WorkerEnd) (n : ℕ) (k : LinkEnd) : Type 0 where
  pub by : WorkerEnd
  pub there : slice_get workers k.worker ≡ Some by
  pub link : k.desk.link ≡ n
  pub number : k.had.number ≡ k.worker
  pub base : by.base ≡ k.had.base
  pub served : WasServed ports k.had k.desk k.cause
  pub went : GoesBeside n (worker_of k.had) (worker_then by)

-- what each link came to
abbrev pub AllResults : List LinkEnd → List LinkRun → List LinkPorts → List Talk → Type 0
AllResults [] [] [] [] = Unit {0}
AllResults (k ∷ links) (l ∷ runs) (e ∷ ports) (t ∷ talks) = LinkResult k.cause k.desk l e t × AllResults links runs ports talks
AllResults links runs ports talks = ⊥

-- the session of these links, over a store with this base, that left these records in its log
abbrev pub session_of : StoreBasis → List LinkRun → List Record → Run
session_of b runs records = record { links = runs; records = records; old = length b.records; limit = b.limit }

-- a link whose input came to an end was answered in full
abbrev pub IsAnsweredInFull : Cause → Talk → Type 0
IsAnsweredInFull c t = IsDone c → length t.replies ≡ length t.asks

-- all of the replies were written to a link whose input came to an end
abbrev pub AllWereWritten : List Cause → List LinkRun → List Talk → Type 0
AllWereWritten [] [] [] = Unit {0}
AllWereWritten (c ∷ causes) (l ∷ runs) (t ∷ talks) = (IsDone c → l.written ≡ flat_map spelling t.replies) × AllWereWritten causes runs talks
AllWereWritten causes runs talks = ⊥

-- Links that ended so were served by workers over a store with this base: each reply and each record is accounted for by the history of the
-- store's port, and what was read and written by each link's two ports. Where the log tells its bytes the session served; where the inputs
-- of all links came to an end it was whole; and each link whose input came to an end was answered in full, whatever became of others.
pub record ManyServed (causes : List Cause) (b : StoreBasis) (history : List StoreEntry) (trail : List (ℕ × StoreTold)) (runs : List LinkRun) (ports : List LinkPorts) (records : List Record) : Type 0 where
  pub talks : List Talk
  pub accounted : Accounted b history trail (session_of b runs records) talks
  pub links : AllEnded runs ports talks
  pub served : b.told ≡ true → Served (session_of b runs records)
  pub whole : b.told ≡ true → AllByRecursion IsDone causes → Whole (session_of b runs records)
  pub answered : AllZip IsAnsweredInFull causes talks
  pub written : AllWereWritten causes runs talks
