-- What a log holds, as its callers see it, and how its fields stand for that.
use Rattle.std.specs.Prelude.{◌≡◌, ℕ, ◌+◌, ◌-◌, ◌<◌, ◌≤◌, ◌==◌, Bool, true, false, if◌then◌else◌, List, [], ◌∷◌, length, take, get_or, Option, IfSome}
use Rattle.std.specs.Io.KnownBytes.{append_known}
use Rattle.std.specs.List.{AllByRecursion}
use Rattle.demi_core.specs.Outside.{GrowsByFront, disk_max}
use Rattle.demi_spec.specs.LogText.{entries, log_text, IsPayload, header}
use Rattle.std.specs.Prelude.{Ok, ◌⊎◌}

-- where the entries end, the first of which begins at this place
abbrev pub ends_from : ℕ → List (List ℕ) → List ℕ
ends_from at [] = []
ends_from at (p ∷ payloads) = (at + (4 + length p)) ∷ ends_from (at + (4 + length p)) payloads

-- where an entry begins
abbrev pub place_of : List ℕ → ℕ → ℕ
place_of ends i = if i == 0 then 8 else get_or ends (i - 1) 0

-- where the last one ends
abbrev pub end_of : List (List ℕ) → ℕ
end_of payloads = length (log_text payloads)

-- a log on a disk, as its callers see it
pub record Logged (D : Type 0) : Type 0 where
  pub disk : D
  -- where its entries end
  pub ends : List ℕ
  -- the bytes that are staged for the next entry
  pub staged : List ℕ
  pub limit : ℕ
  -- a commit failed; a cut failed
  pub torn : Bool
  pub lost : Bool

-- These are the payloads of the entries that end there. Where the disk tells its bytes they are spelled on it; where
-- it does not, their lengths alone are bound.
pub record Holds (told : Option (List ℕ)) (ends : List ℕ) (payloads : List (List ℕ)) : Type 0 where
  pub fits : AllByRecursion IsPayload payloads
  pub places : ends ≡ ends_from 8 payloads
  pub text : IfSome told (λ b. take (end_of payloads) b ≡ log_text payloads)

-- a log that no commit and no cut has left in doubt
abbrev pub IsSound : {D : Type 0} → Logged D → Type 0
IsSound l = (l.torn ≡ false) × (l.lost ≡ false)

-- what stands on the disk, as long as no cut failed
pub record Stands (told : Option (List ℕ)) (held : ℕ) (ends : List ℕ) (torn : Bool) : Type 0 where
  pub payloads : List (List ℕ)
  pub holds : Holds told ends payloads
  pub within : end_of payloads ≤ held
  pub most : end_of payloads ≤ disk_max
  pub whole : torn ≡ false → held ≡ end_of payloads

-- the fields of a log
pub record IsLogged (told : Option (List ℕ)) (held : ℕ) (ends : List ℕ) (room : ℕ) (stage : List ℕ) (stage_room limit : ℕ) (torn lost : Bool) : Type 0 where
  pub stands : lost ≡ false → Stands told held ends torn
  pub ends_room : limit ≤ room
  pub front : 4 ≤ length stage
  pub fits : length stage ≤ 65802
  pub whole_entry : 65802 ≤ stage_room

-- entries that were found from the front on, up to a place
pub record Found (told : Option (List ℕ)) (held : ℕ) (ends : List ℕ) (at : ℕ) : Type 0 where
  pub before : List (List ℕ)
  pub fits : AllByRecursion IsPayload before
  pub places : ends ≡ ends_from 8 before
  pub here : at ≡ end_of before
  pub within : at ≤ held
  pub text : IfSome told (λ b. take at b ≡ log_text before)

-- What a log holds that was just opened: the entries of the disk, which has at least a header now.
pub record Opened (old new : Option (List ℕ)) (held : ℕ) (ends : List ℕ) : Type 0 where
  pub payloads : List (List ℕ)
  pub holds : Holds new ends payloads
  pub whole : held ≡ end_of payloads
  pub read : IfSome old (λ b. entries b ≡ Ok payloads)

-- the calls of a disk at an opening that succeeded: looks, and on an empty disk one append of the header
abbrev pub OpenedBy : {D : Type 0} → (D → D → Type 0) → (D → List ℕ → Bool → D → Type 0) → ℕ → D → D → Type 0
OpenedBy {D} looks appends held old new = (held ≡ 0 → (d : D) × looks old d × appends d header true new) × (0 < held → looks old new)

-- at one that was refused: looks, and perhaps on an empty disk one append of the header that failed
abbrev pub NotOpenedBy : {D : Type 0} → (D → D → Type 0) → (D → List ℕ → Bool → D → Type 0) → ℕ → D → D → Type 0
NotOpenedBy {D} looks appends held old new = looks old new ⊎ ((held ≡ 0) × ((d : D) × looks old d × appends d header false new))

-- what a disk holds that was opened: what it held, or where that was nothing the header
abbrev pub StandsAs : Option (List ℕ) → Option (List ℕ) → ℕ → ℕ → Type 0
StandsAs old new held_old held_new = (0 < held_old → (new ≡ old) × (held_new ≡ held_old)) × (held_old ≡ 0 → (new ≡ append_known old header) × (held_new ≡ 8))

-- what a disk holds that was refused: what it held, or where it was empty a front of the header
abbrev pub LeftAs : Option (List ℕ) → Option (List ℕ) → ℕ → ℕ → Type 0
LeftAs old new held_old held_new = ((new ≡ old) × (held_new ≡ held_old)) ⊎ ((held_old ≡ 0) × GrowsByFront old new held_old held_new header)
