-- Which reads a run makes of its link's source: only those that are due.
use Rattle.std.specs.Prelude.{◌≡◌, ℕ, Bool, List, Option, ◌⊎◌}
use Rattle.demi_core.specs.World.{WorldState, Link, Log}
use Rattle.demi_logq.specs.Items.{tells}
use Rattle.demi_served.specs.Talks.{LinkRun}
use Rattle.demi_server.specs.Logs.{HadRecords}
use Rattle.demi_closed.specs.Reading.{OnlyDueReads}
use Rattle.demi_spec.specs.Record.{Record}
use Rattle.demi_cli.specs.Given.{LogOf, LinkOf, NoLink}
use Rattle.demi_cli.specs.Serving.{Took, Says}

-- a source tells these numbers and bytes of a link
pub record SourceOf {Source : Type 0} (taken : Source → ℕ) (left : Source → Option (List ℕ)) (faults : Source → ℕ) (source : Source) (link : Link) : Type 0 where
  pub taken_is : link.taken ≡ taken source
  pub left_is : link.left ≡ left source
  pub faults_are : link.read_faults ≡ faults source

-- The link that the world gave and keeps, and its source as it was given and as it is kept. `next` are the sources that the world was to
-- give next before the run, `kept` those that it keeps after it.
pub record GivenSource {Source : Type 0} (taken : Source → ℕ) (left : Source → Option (List ℕ)) (faults : Source → ℕ) (next kept : ℕ → Source → Type 0) (old new : WorldState) : Type 0 where
  pub of_link : LinkOf old new
  pub before : Source
  pub before_given : next 0 before
  pub before_is : SourceOf taken left faults before of_link.link
  pub after : Source
  pub after_kept : kept 0 after
  pub after_is : SourceOf taken left faults after of_link.kept

-- Nothing was read: no link was taken, or its source is kept as it was given.
abbrev pub NothingRead : {Source : Type 0} → (Source → ℕ) → (Source → Option (List ℕ)) → (Source → ℕ) → (ℕ → Source → Type 0) → (ℕ → Source → Type 0) → WorldState → WorldState → Type 0
NothingRead taken left faults next kept old new = NoLink old new ⊎ ((s : GivenSource taken left faults next kept old new) × (s.after ≡ s.before))

-- Between these two moments of a link's source only due reads were made of it, over a store with these old records, and they gave all the
-- bytes that the link took. `reads` is the source's relation of one read.
pub record ReadOnlyDue (limit : ℕ) {Source : Type 0} (reads : Source → ℕ → Option (List ℕ) → Source → Type 0) (told : Bool) (old : List Record) (before after : Source) (link kept : Link) : Type 0 where
  pub run : LinkRun
  pub took : Took link kept run.read
  pub says : Says link kept run.written
  pub due : OnlyDueReads reads told limit old before after run

-- the same of the link that the world gave and keeps, over a log with the records that it had
pub record DueOver (limit : ℕ) {Source : Type 0} (reads : Source → ℕ → Option (List ℕ) → Source → Type 0) (taken : Source → ℕ) (left : Source → Option (List ℕ)) (faults : Source → ℕ)
    (next kept : ℕ → Source → Type 0) (old new : WorldState) (log : Log) : Type 0 where
  pub sources : GivenSource taken left faults next kept old new
  pub records : List Record
  pub had : HadRecords log records
  pub only : ReadOnlyDue limit reads (tells log.bytes) records sources.before sources.after sources.of_link.link sources.of_link.kept

-- In a run over the log of this name nothing more of the link is read after an end frame, a refused frame, the end of the input or a fault.
pub record DueInRun (limit : ℕ) {Source : Type 0} (reads : Source → ℕ → Option (List ℕ) → Source → Type 0) (taken : Source → ℕ) (left : Source → Option (List ℕ)) (faults : Source → ℕ)
    (next kept : ℕ → Source → Type 0) (old new : WorldState) (name : List ℕ) : Type 0 where
  pub of_log : LogOf old new name
  pub over : DueOver limit reads taken left faults next kept old new of_log.log
