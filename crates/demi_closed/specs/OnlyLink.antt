-- What a session of one link and one worker comes to.
use Rattle.std.specs.Prelude.{◌≡◌, ◌≢◌, ℕ, ◌+◌, ◌⊎◌, true, List, [], ◌∷◌, drop, flat_map, length, take}
use Rattle.std.specs.List.{AllByRecursion}
use Rattle.demi_port_core.specs.Trails.{StartsWith}
use Rattle.demi_spec.specs.Record.{Record}
use Rattle.demi_spec.specs.Reply.{spelling}
use Rattle.demi_spec.specs.Store.{serial}
use Rattle.demi_store.specs.Laws.{StoreBasis}
use Rattle.demi_store.specs.declared.ask.StoreAsk.{StoreAsk}
use Rattle.demi_store.specs.declared.op.StoreOp.TheVariants as op
use Rattle.demi_store.specs.declared.told.StoreTold.{StoreTold}
use Rattle.demi_served.specs.Accounts.{Accounted, StoreEntry}
use Rattle.demi_served.specs.Alone.{AsksAll}
use Rattle.demi_served.specs.Links.{LinkEnded, LinkPorts}
use Rattle.demi_served.specs.Served.{Served, Whole}
use Rattle.demi_served.specs.Talks.{LinkRun, Run, Talk}
use Rattle.demi_link.specs.Ends.{IsDone}
use Rattle.demi_link.specs.Sights.{LeavesBe, Sight, worker_of}
use Rattle.demi_link.specs.Talks.{DeskValue}
use Rattle.demi_link.specs.declared.phase.Cause.{Cause}

-- what a stop of the store's port says
abbrev pub store_stop : StoreAsk
store_stop = record { sequence = 0; op = op.Stop }

-- What a worker had for this link, and has later: but for the link's two ports, others of the worker alone went on.
abbrev pub WentOn : ℕ → Sight → Sight → Type 0
WentOn link s t = LeavesBe link (record s { rx = t.rx; tx = t.tx }) t

-- The worker has the number 0, its link has the number 0, it drew numbers for no other link, and it asked the store with each number that
-- it drew for a request that asks it.
pub record ServesOne (s : Sight) (d : DeskValue) : Type 0 where
  pub number : s.number ≡ 0
  pub link : d.link ≡ 0
  pub others : (l : ℕ) → l ≢ 0 → AllByRecursion (λ x. x.link ≢ l) s.draws
  pub asks : AsksAll (worker_of s)

-- the session of this link, over a store with this base, that left these records in its log
abbrev pub run_of : StoreBasis → LinkRun → List Record → Run
run_of b l records = record { links = l ∷ []; records = records; old = length b.records; limit = b.limit }

-- One link was served by one worker over a store with this base: each reply and each record is accounted for by the history of the
-- store's port, and what was read and written by the link's two ports. Where the log tells its bytes the session served, and what was
-- written begins what the store on one thread writes; where the input came to an end all of it was answered, and the session was whole.
pub record OneServed (c : Cause) (b : StoreBasis) (history : List StoreEntry) (trail : List (ℕ × StoreTold)) (l : LinkRun) (e : LinkPorts) (records : List Record) : Type 0 where
  pub talk : Talk
  pub accounted : Accounted b history trail (run_of b l records) (talk ∷ [])
  pub link : LinkEnded l e talk
  pub served : b.told ≡ true → Served (run_of b l records)
  pub whole : b.told ≡ true → IsDone c → Whole (run_of b l records)
  pub replies : b.told ≡ true → talk.replies ≡ take (length talk.replies) (serial b.records b.limit talk.asks).replies
  pub output : b.told ≡ true → StartsWith (flat_map spelling (serial b.records b.limit talk.asks).replies) l.written
  pub all : IsDone c → length talk.replies ≡ length talk.asks
  pub all_output : b.told ≡ true → IsDone c → l.written ≡ flat_map spelling (serial b.records b.limit talk.asks).replies
  pub records_are : b.told ≡ true
      → (drop (length b.records) records ≡ (serial b.records b.limit (take (length talk.replies) talk.asks)).records)
      ⊎ (drop (length b.records) records ≡ (serial b.records b.limit (take (length talk.replies + 1) talk.asks)).records)
  pub all_records : b.told ≡ true → IsDone c → drop (length b.records) records ≡ (serial b.records b.limit talk.asks).records
