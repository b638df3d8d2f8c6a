-- What the objects of the outside say of their calls: bytes that are told or not told, and faults that are counted.
use Rattle.std.specs.Prelude.{◌≡◌, ℕ, ◌+◌, ◌-◌, ◌^◌, ◌<◌, ◌≤◌, ◌↔◌, min, List, [], ◌∷◌, length, take, drop, slice_index, flat_map, Option, Some, None, IfSome, unwrap_or, Result, Ok, Err, OnErr, option_map}
use Rattle.std.specs.Io.KnownBytes.{append_known}
use Rattle.std.proofs.lemmas.List.{get_or-drop}

-- a count of faults rose, or stands at its last value
abbrev pub Rose : ℕ → ℕ → Type 0
Rose before now = min (before + 1) (2 ^ 64 - 1) ≤ now

-- a count never falls, and a call fails only where it rose
pub record HasCause {T E : Type 0} (before now : ℕ) (result : Result T E) : Type 0 where
  pub later : before ≤ now
  pub failed : OnErr result (Rose before now)

-- the count after one more fault, which stays at its last value
abbrev pub one_fault_more : ℕ → ℕ
one_fault_more faults = min (faults + 1) (2 ^ 64 - 1)

-- a source never gives more bytes than this
abbrev pub source_max : ℕ
source_max = 2 ^ 34

-- a disk never holds more bytes than this
abbrev pub disk_max : ℕ
disk_max = 2 ^ 40

-- each number is a byte
abbrev pub AreBytes : List ℕ → Type 0
AreBytes bytes = (k : ℕ) → slice_index bytes k < 256

-- bytes without some at their front are bytes
pub drop_bytes : (n : ℕ) (bytes : List ℕ) → AreBytes bytes → AreBytes (drop n bytes)
drop_bytes n bytes are k = rw (get_or-drop n bytes k 0) (are (n + k))

-- told bytes are at their end exactly where nothing was given
abbrev pub EndsAt : Option (List ℕ) → ℕ → Type 0
EndsAt left k = IfSome left (λ bytes. (k ≡ 0) ↔ (bytes ≡ []))

-- what a read gave: bytes, none of them at the end of input; or None where it failed
abbrev pub given_by : {E : Type 0} → Result ℕ E → List ℕ → Option (List ℕ)
given_by (Ok count) room = Some (take count room)
given_by (Err e) room = None

-- Reads of a source after each other, each into a room of so many bytes: what each gave, in order. `read` is the
-- source's relation of one read.
abbrev pub Reads : {Source : Type 0} → (Source → ℕ → Option (List ℕ) → Source → Type 0) → ℕ → Source → List (Option (List ℕ)) → Source → Type 0
Reads read room old [] new = new ≡ old
Reads {Source} read room old (gave ∷ later) new = (next : Source) × read old room gave next × Reads read room next later new

-- all the bytes that some reads gave
abbrev pub bytes_given : List (Option (List ℕ)) → List ℕ
bytes_given reads = flat_map (λ gave. unwrap_or gave []) reads

-- what a disk holds grew by some front of the piece
abbrev pub GrowsByFront : Option (List ℕ) → Option (List ℕ) → ℕ → ℕ → List ℕ → Type 0
GrowsByFront old new held_old held_new piece =
    (k : ℕ) × (k ≤ length piece) × (new ≡ append_known old (take k piece)) × (held_new ≡ held_old + k)

-- a disk holds its first bytes alone
pub record Cut (old new : Option (List ℕ)) (held_new len : ℕ) : Type 0 where
  pub bytes : new ≡ option_map (take len) old
  pub held : held_new ≡ len
