-- What of a caller is outstanding at each port.
use Rattle.std.specs.Prelude.{◌≡◌, ℕ, zero, suc, ◌+◌, ◌<◌, ◌==◌, Bool, true, false, cond, List, [], ◌∷◌, length, slice_index_or}
use Rattle.demi_port_core.specs.declared.place.QToken.{QToken}
use Rattle.demi_port.specs.Seen.{PassValue}
use Rattle.demi_pdpix.specs.declared.kind.PortKind.{PortKind}
use Rattle.demi_pdpix.specs.declared.kind.PortKind.TheVariants.{Memory, Service, Journal, Receiving, Sending, Nowhere}
use Rattle.demi_pdpix.specs.Kinds.{kind_of}
use Rattle.demi_pdpix.specs.Seen.{CallerValue, DemiId, IsOf}

-- it is the same port
abbrev pub same_kind : PortKind → PortKind → Bool
same_kind Memory Memory = true
same_kind Service Service = true
same_kind Journal Journal = true
same_kind (Receiving j) (Receiving k) = j == k
same_kind (Sending j) (Sending k) = j == k
same_kind Nowhere Nowhere = true
same_kind kind other = false

-- one more at this port than f says
abbrev pub one_more_at : PortKind → (PortKind → ℕ) → PortKind → ℕ
one_more_at here f kind = cond (same_kind here kind) (f kind + 1) (f kind)

-- how many of these tokens are of the port of this kind
abbrev pub due_at : {B : Type 0} → DemiId B → List QToken → PortKind → ℕ
due_at d [] kind = 0
due_at d (t ∷ ts) kind = one_more_at (kind_of d t.port) (due_at d ts) kind

-- the tokens but for the one of this index
abbrev pub without_at : ℕ → List QToken → List QToken
without_at i [] = []
without_at zero (t ∷ ts) = ts
without_at (suc i) (t ∷ ts) = t ∷ without_at i ts

-- the pass has the number n, and submitted so many operations more than it redeemed
abbrev pub IsDue : {D T B : Type 0} → ℕ → ℕ → PassValue D T B → Type 0
IsDue n many p = (p.number ≡ n) × (length p.submitted ≡ length p.redeemed + many)

-- so has each pass, of which f says how many of the one at its place
abbrev pub AreDue : {D T B : Type 0} → ℕ → (ℕ → ℕ) → List (PassValue D T B) → Type 0
AreDue {D} {T} {B} n f ps = (k : ℕ) (p : PassValue D T B) → k < length ps → IsDue n (f k) (slice_index_or ps k p)

-- so has the first pass, if there is one
abbrev pub IsFirstDue : {D T B : Type 0} → ℕ → ℕ → List (PassValue D T B) → Type 0
IsFirstDue {D} {T} {B} n many ps = (p : PassValue D T B) → 0 < length ps → IsDue n many (slice_index_or ps 0 p)

-- the caller's passes have the number n, and of each port so many operations are outstanding as f says
abbrev pub IsDueAt : {D T B : Type 0} → ℕ → (PortKind → ℕ) → CallerValue D T B → Type 0
IsDueAt n f c = IsDue n (f Memory) c.memory × IsDue n (f Service) c.service × IsFirstDue n (f Journal) c.journal × AreDue n (λ k. f (Receiving k)) c.rx × AreDue n (λ k. f (Sending k)) c.tx

-- the caller of this whole with the number n, whose outstanding operations are those of these tokens
abbrev pub Owes : {D T B : Type 0} → DemiId B → ℕ → List QToken → CallerValue D T B → Type 0
Owes d n tokens c = IsOf d c × IsDueAt n (due_at d tokens) c

-- the callers with the numbers from n on, none of whom has anything outstanding
abbrev pub AreCalm : {D T B : Type 0} → DemiId B → ℕ → List (CallerValue D T B) → Type 0
AreCalm d n [] = Unit {0}
AreCalm d n (c ∷ cs) = Owes d n [] c × AreCalm d (n + 1) cs
