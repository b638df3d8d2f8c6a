-- The heads of a log's records, as they were read.
use Rattle.std.specs.Prelude.{◌≡◌, ℕ, List, length, map, take, flat_map, Option, IfSome, Ok}
use Rattle.std.specs.List.{AllByRecursion}
use Rattle.demi_spec.specs.Record.{Record, IsRecord, payload, records as records_of_text}
use Rattle.demi_logq.specs.Logged.{Holds}
use Rattle.demi_store.specs.Openings.{Alike}
use Rattle.demi_cli.specs.declared.head.Head.{Head}
use Rattle.demi_cli.specs.declared.heads.Heads.{Heads}

-- the head of a record
abbrev pub head_of : Record → Head
head_of r = record { index = r.index; value_bytes = length r.value; link = r.link; key_bytes = length r.key }

-- the keys of records, joined
abbrev pub keys_of : List Record → List ℕ
keys_of records = flat_map (λ r. r.key) records

-- the heads of these records
pub record HeadsOf (heads : Heads) (records : List Record) : Type 0 where
  pub heads_are : heads.heads.items ≡ map head_of records
  pub keys_are : heads.keys.items ≡ keys_of records

-- The heads of the first entries were read, so many, as those of records that they hold.
pub record HeadsTo (told : Option (List ℕ)) (ends : List ℕ) (heads : Heads) (count : ℕ) : Type 0 where
  pub records : List Record
  pub alike : (payloads : List (List ℕ)) → Holds told ends payloads → Alike told (take count payloads) records
  pub fits : AllByRecursion IsRecord records
  pub heads_of : HeadsOf heads records
  pub count_is : length records ≡ count

-- The heads of all entries were read, as those of these records. Where the disk tells its bytes, they are the records of its text.
pub record HeadsAll (told : Option (List ℕ)) (ends : List ℕ) (heads : Heads) : Type 0 where
  pub records : List Record
  pub heads_of : HeadsOf heads records
  pub read : IfSome told (λ b. records_of_text b ≡ Ok records)
  pub holds : Holds told ends (map payload records)
  pub count_is : length records ≡ length ends
