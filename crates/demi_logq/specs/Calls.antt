-- What a commit and a cut of a log do.
use Rattle.std.specs.Prelude.{◌≡◌, ℕ, ◌+◌, ◌<◌, ◌≤◌, ◌⊎◌, Bool, true, false, List, [], ◌∷◌, ◌++◌, length, take, Option, Result, Ok, Err}
use Rattle.std.specs.Io.KnownBytes.{append_known}
use Rattle.demi_core.specs.Outside.{Rose, GrowsByFront}
use Rattle.demi_core.specs.Outside as outside
use Rattle.demi_spec.specs.LogText.{entry}
use Rattle.demi_logq.specs.Logged.{Logged, Holds, IsSound, place_of}
use Rattle.demi_logq.specs.declared.refusal.LogRefusal.{LogRefusal}
use Rattle.demi_logq.specs.declared.refusal.LogRefusal.TheVariants as refusal

-- a commit or a cut failed before
abbrev pub IsBroken : {D : Type 0} → Logged D → Type 0
IsBroken l = (l.torn ≡ true) ⊎ (l.lost ≡ true)

-- an entry was appended by one append of the disk, behind all that was there
pub record Appended {D : Type 0} (bytes : D → Option (List ℕ)) (held : D → ℕ) (appends : D → List ℕ → Bool → D → Type 0) (old new : Logged D) (index : ℕ) : Type 0 where
  pub sound : IsSound old
  pub index_is : index ≡ length old.ends
  pub room : index < old.limit
  pub now : new ≡ record old { disk = new.disk; ends = new.ends; staged = [] }
  pub holds : (payloads : List (List ℕ)) → Holds (bytes old.disk) old.ends payloads → Holds (bytes new.disk) new.ends (payloads ++ old.staged ∷ [])
  pub bytes_are : bytes new.disk ≡ append_known (bytes old.disk) (entry old.staged)
  pub held_is : held new.disk ≡ held old.disk + (4 + length old.staged)
  pub call : appends old.disk (entry old.staged) true new.disk

-- the append failed: what was there holds on, with a front of the entry behind it
pub record Torn {D : Type 0} (bytes : D → Option (List ℕ)) (held faults : D → ℕ) (appends : D → List ℕ → Bool → D → Type 0) (old new : Logged D) : Type 0 where
  pub sound : IsSound old
  pub room : length old.ends < old.limit
  pub now : new ≡ record old { disk = new.disk; staged = []; torn = true }
  pub holds : (payloads : List (List ℕ)) → Holds (bytes old.disk) old.ends payloads → Holds (bytes new.disk) new.ends payloads
  pub grown : GrowsByFront (bytes old.disk) (bytes new.disk) (held old.disk) (held new.disk) (entry old.staged)
  pub call : appends old.disk (entry old.staged) false new.disk
  pub cause : Rose (faults old.disk) (faults new.disk)

abbrev pub Committed : {D : Type 0} → (D → Option (List ℕ)) → (D → ℕ) → (D → ℕ) → (D → List ℕ → Bool → D → Type 0) → Logged D → Logged D → Result ℕ LogRefusal → Type 0
Committed bytes held faults appends old new (Ok index) = Appended bytes held appends old new index
Committed bytes held faults appends old new (Err refusal.Failed) = Torn bytes held faults appends old new
Committed bytes held faults appends old new (Err refusal.Full) = IsSound old × (old.limit ≤ length old.ends) × (new ≡ record old { staged = [] })
Committed bytes held faults appends old new (Err refusal.Broken) = IsBroken old × (new ≡ record old { staged = [] })
Committed bytes held faults appends old new (Err other) = ⊥

-- the first entries stay, by one cut of the disk
pub record Cut {D : Type 0} (bytes : D → Option (List ℕ)) (held : D → ℕ) (cuts : D → ℕ → Bool → D → Type 0) (old new : Logged D) (n : ℕ) : Type 0 where
  pub sound : IsSound old
  pub now : new ≡ record old { disk = new.disk; ends = take n old.ends }
  pub holds : (payloads : List (List ℕ)) → Holds (bytes old.disk) old.ends payloads → Holds (bytes new.disk) new.ends (take n payloads)
  pub disk : outside.Cut (bytes old.disk) (bytes new.disk) (held new.disk) (place_of old.ends n)
  pub call : cuts old.disk (place_of old.ends n) true new.disk

-- the cut failed: the disk was cut, or is as before
pub record Lost {D : Type 0} (bytes : D → Option (List ℕ)) (held faults : D → ℕ) (cuts : D → ℕ → Bool → D → Type 0) (old new : Logged D) (n : ℕ) : Type 0 where
  pub sound : IsSound old
  pub now : new ≡ record old { disk = new.disk; lost = true }
  pub left : outside.Cut (bytes old.disk) (bytes new.disk) (held new.disk) (place_of old.ends n) ⊎ ((bytes new.disk ≡ bytes old.disk) × (held new.disk ≡ held old.disk))
  pub call : cuts old.disk (place_of old.ends n) false new.disk
  pub cause : Rose (faults old.disk) (faults new.disk)

abbrev pub Shortened : {D : Type 0} → (D → Option (List ℕ)) → (D → ℕ) → (D → ℕ) → (D → ℕ → Bool → D → Type 0) → Logged D → Logged D → ℕ → Result (Unit {0}) LogRefusal → Type 0
Shortened bytes held faults cuts old new n (Ok done) = Cut bytes held cuts old new n
Shortened bytes held faults cuts old new n (Err refusal.Failed) = Lost bytes held faults cuts old new n
Shortened bytes held faults cuts old new n (Err refusal.Broken) = IsBroken old × (new ≡ old)
Shortened bytes held faults cuts old new n (Err other) = ⊥
