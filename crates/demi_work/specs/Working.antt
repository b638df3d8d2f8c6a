-- What the work of many comes to.
use Rattle.std.specs.Prelude.{◌≡◌, ℕ, ◌<◌, List, length, slice_index_or}
use Rattle.demi_work.specs.declared.both.Both.{Both}

-- There are as many as before, and what stood at each place became, in this way, what stands there.
pub record EachBecame {A : Type 0} (P : A → A → Type 0) (old new : List A) : Type 0 where
  pub as_many : length new ≡ length old
  pub each : (k : ℕ) (d : A) → k < length old → P (slice_index_or old k d) (slice_index_or new k d)

-- both of a pair are ready for their work
abbrev pub BothReady : {A B : Type 0} → (A → Type 0) → (B → Type 0) → Both A B → Type 0
BothReady P Q x = P x.first × Q x.second

-- both of a pair have done their work
abbrev pub BothDone : {A B : Type 0} → (A → A → Type 0) → (B → B → Type 0) → Both A B → Both A B → Type 0
BothDone P Q x y = P x.first y.first × Q x.second y.second

-- the one, and then the other
abbrev pub Then : {A : Type 0} → (A → A → Type 0) → (A → A → Type 0) → A → A → Type 0
Then {A} P Q a c = (b : A) × P a b × Q b c

-- Each of a crew has done its work, and the first one besides, when all had ended, the last of it.
pub record IsCrewDone {A : Type 0} (done finished : A → A → Type 0) (old new : List A) : Type 0 where
  pub as_many : length new ≡ length old
  pub first : (d : A) → Then done finished (slice_index_or old 0 d) (slice_index_or new 0 d)
  pub others : (k : ℕ) (d : A) → 0 < k → k < length old → done (slice_index_or old k d) (slice_index_or new k d)
