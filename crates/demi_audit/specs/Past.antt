-- The records of a log by their keys, and back from each to those before it with its key.
use Rattle.std.specs.Prelude.{◌≡◌, ℕ, ◌+◌, ◌<◌, ◌≤◌, List, [], ◌∷◌, length, get_or, unwrap_or, bytes_eq}
use Rattle.std.specs.HashMap.{get_by}
use Rattle.demi_spec.specs.Record.{Record}
use Rattle.demi_audit.specs.declared.past.BackStep.{BackStep}
use Rattle.demi_audit.specs.declared.past.Past.{Past}

-- what stands where there is no record
abbrev pub no_record : Record
no_record = record { link = 0; index = 0; key = []; value = [] }

-- record number n, from 1
abbrev pub record_at : List Record → ℕ → Record
record_at rs n = get_or (no_record ∷ rs) n no_record

-- the last of the first so many records that has the key is record number n, or there is none and n is 0
pub record IsLatest (rs : List Record) (key : List ℕ) (version n : ℕ) : Type 0 where
  pub within : n ≤ version
  pub has : 0 < n → (record_at rs n).key ≡ key
  pub none : (k : ℕ) → n < k → k ≤ version → (record_at rs k).key ≡ key → ⊥

-- it has the same key and comes no later, or there is none
pub record IsBack (rs : List Record) (from n : ℕ) : Type 0 where
  pub within : n ≤ from
  pub same : 0 < n → (record_at rs n).key ≡ (record_at rs from).key

abbrev pub last_of : Past → List ℕ → ℕ
last_of p key = unwrap_or (get_by (λ k. bytes_eq key k.items) p.last) 0

-- These are the records.
pub record PastOf (p : Past) (rs : List Record) : Type 0 where
  pub count : length p.steps.items ≡ length rs + 1
  pub previous : (v : ℕ) (d : BackStep) → v < length rs → IsLatest rs (record_at rs (v + 1)).key v (get_or p.steps.items (v + 1) d).previous
  pub jump : (v : ℕ) (d : BackStep) → v ≤ length rs → IsBack rs v (get_or p.steps.items v d).jump
  pub shorter : (v : ℕ) (d : BackStep) → 0 < v → v ≤ length rs → (get_or p.steps.items v d).jump < v
  pub last : (key : List ℕ) → IsLatest rs key (length rs) (last_of p key)
