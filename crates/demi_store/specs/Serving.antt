-- How a store stands for what its operations made of it, and what one operation does.
use Rattle.std.specs.Prelude.{◌≡◌, ℕ, ◌≤◌, Bool, List, Option, None, option_map}
use Rattle.demi_core.specs.Outside.{Rose}
use Rattle.demi_logq.specs.Items.{tells}
use Rattle.demi_logq.specs.Logged.{Logged}
use Rattle.demi_port_core.specs.declared.place.Place.{Place}
use Rattle.demi_store.specs.declared.answer.StoreAnswer.{StoreAnswer}
use Rattle.demi_store.specs.declared.answer.StoreAnswer.TheVariants as said
use Rattle.demi_store.specs.declared.op.StoreOp.{StoreOp}
use Rattle.demi_store.specs.declared.op.StoreOp.TheVariants.{Put, Get}
use Rattle.demi_store.specs.declared.out.StoreOut.{StoreOut}
use Rattle.demi_store.specs.Cores.{Core}
use Rattle.demi_store.specs.History.{Standing, said_by, record_of_put}
use Rattle.demi_store.specs.Laws.{StoreBasis, SaysTo, told_of}
use Rattle.demi_store.specs.Shelves.{Grows, Fails}

-- What an operation does with the log, by its answer: a put that is stored is one append of the disk, a get that reads makes looks
-- alone, and no other does anything.
abbrev pub LogGoes : {D : Type 0} → (D → Option (List ℕ)) → (D → ℕ) → (D → ℕ) → (D → List ℕ → Bool → D → Type 0) → (D → D → Type 0) → Logged D → Logged D → StoreOp → StoreAnswer → Type 0
LogGoes bytes held faults appends looks a b (Put link index key value) (said.Stored v) = Grows bytes held appends a.disk b.disk (record_of_put link index key value)
LogGoes bytes held faults appends looks a b (Put link index key value) said.Fault = Fails bytes held faults appends a.disk b.disk (record_of_put link index key value)
LogGoes bytes held faults appends looks a b (Get key room) (said.Found v) = (b ≡ record a { disk = b.disk }) × looks a.disk b.disk × (bytes b.disk ≡ bytes a.disk) × (held b.disk ≡ held a.disk)
LogGoes bytes held faults appends looks a b (Get key room) said.Fault = (b ≡ record a { disk = b.disk }) × looks a.disk b.disk × (bytes b.disk ≡ bytes a.disk) × (held b.disk ≡ held a.disk)
LogGoes bytes held faults appends looks a b op answer = b ≡ a

-- What an operation does. The disk's count does not fall, and the answer is a fault only where it rose.
pub record Moves {D : Type 0} (bytes : D → Option (List ℕ)) (held faults : D → ℕ) (appends : D → List ℕ → Bool → D → Type 0) (looks : D → D → Type 0) (a b : Logged D) (op : StoreOp) (o : StoreOut) : Type 0 where
  pub later : faults a.disk ≤ faults b.disk
  pub fault : o.answer ≡ said.Fault → Rose (faults a.disk) (faults b.disk)
  pub log : LogGoes bytes held faults appends looks a b op o.answer

-- the fields of a store are as what stands
pub record Shows {D : Type 0} (told : Option (List ℕ)) (core : Core D) (b : StoreBasis) (s : Standing) (stop : Option Place) : Type 0 where
  pub limit : core.limit ≡ b.limit
  pub begun : core.begun ≡ None
  pub records : core.records ≡ s.records
  pub fault_is : option_map (λ (p : Place). p.0) core.fault ≡ s.fault
  pub stop_is : option_map (λ (p : Place). p.0) stop ≡ s.stop
  pub told_is : b.told ≡ tells told

-- the operation at the place p was answered: what was said is what the law says where s stood, and what stands now is shown
pub record Answered (told : Bool) (limit p : ℕ) (op : StoreOp) (s : Standing) (Show : Standing → Type 0) (o : StoreOut) : Type 0 where
  pub said : SaysTo told op (said_by limit p s op (told_of o) s.stop).0 o
  pub shows : Show (said_by limit p s op (told_of o) s.stop).1
