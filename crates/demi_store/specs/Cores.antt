-- What a store over a log holds, as its callers see it.
use Rattle.std.specs.Prelude.{◌≡◌, ◌⊎◌, ℕ, ◌+◌, ◌<◌, ◌≤◌, Bool, List, [], ◌∷◌, ◌++◌, length, Option, Some, None}
use Rattle.demi_spec.specs.Record.{Record, IsRecord, payload}
use Rattle.demi_logq.specs.Logged.{Logged}
use Rattle.demi_port_core.specs.declared.place.Place.{Place}
use Rattle.demi_store.specs.Shelves.{Keeps, Grows, Fails}
use Rattle.demi_store.specs.declared.answer.StoreAnswer.{StoreAnswer}
use Rattle.demi_store.specs.declared.answer.StoreAnswer.TheVariants as said
use Rattle.demi_store.specs.declared.index.Index.{Index}

-- its log, its records, how many there may be, the record that is begun, and where the disk failed
pub record Core (D : Type 0) : Type 0 where
  pub log : Logged D
  pub records : List Record
  pub limit : ℕ
  pub begun : Option Record
  pub fault : Option Place

-- nothing is begun, or the payload of a record is
abbrev pub IsDraft : List ℕ → Type 0
IsDraft draft = (draft ≡ []) ⊎ ((r : Record) × IsRecord r × (draft ≡ payload r))

-- the fields of a store: what is staged is a draft
pub record IsCore {D : Type 0} (bytes : D → Option (List ℕ)) (log : Logged D) (index : Index) (limit : ℕ) (fault : Option Place) (records : List Record) : Type 0 where
  pub keeps : Keeps bytes log index limit fault records
  pub draft_is : IsDraft log.staged

-- a log but for what is staged
abbrev pub unstaged : {D : Type 0} → Logged D → Logged D
unstaged log = record log { staged = [] }

-- the record of a draft, where it has one
abbrev pub drafted : Option Record → List Record
drafted None = []
drafted (Some r) = r ∷ []

-- What a put at a place of the record that is begun does, by its answer: nothing is begun afterwards.
abbrev pub CorePut : {D : Type 0} → (D → Option (List ℕ)) → (D → ℕ) → (D → ℕ) → (D → List ℕ → Bool → D → Type 0) → Core D → Core D → ℕ → Record → StoreAnswer → Type 0
CorePut bytes held faults appends old new place r (said.Stored v) =
    (old.fault ≡ None) × (length old.records < old.limit) × (v ≡ length old.records + 1) × (new ≡ record old { log = new.log; records = old.records ++ r ∷ []; begun = None }) × Grows bytes held appends old.log.disk new.log.disk r
CorePut bytes held faults appends old new place r (said.Full v) =
    (old.fault ≡ None) × (old.limit ≤ length old.records) × (v ≡ length old.records) × (new ≡ record old { begun = None })
CorePut bytes held faults appends old new place r said.NoMemory =
    (old.fault ≡ None) × (length old.records < old.limit) × (new ≡ record old { begun = None })
CorePut bytes held faults appends old new place r said.Fault =
    (old.fault ≡ None) × (length old.records < old.limit) × (new ≡ record old { log = new.log; begun = None; fault = Some (record { 0 = place }) }) × Fails bytes held faults appends old.log.disk new.log.disk r
CorePut bytes held faults appends old new place r (said.Broken at) = (old.fault ≡ Some at) × (new ≡ record old { begun = None })
CorePut bytes held faults appends old new place r other = ⊥
