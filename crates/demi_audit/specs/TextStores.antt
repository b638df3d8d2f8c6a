-- A store over a log text in memory: where it finds values, and how far it has answered an input.
use Rattle.std.specs.Prelude.{◌≡◌, ℕ, ◌+◌, ◌≤◌, List, ◌++◌, length, map, take, drop, flat_map, Option, option_map, IfSome, bytes_eq}
use Rattle.std.specs.List.{AllByRecursion}
use Rattle.std.specs.HashMap.{get_by}
use Rattle.demi_spec.specs.Request.{Request, AllGoOn}
use Rattle.demi_spec.specs.Request as request
use Rattle.demi_spec.specs.Input.{Asked, Request_of}
use Rattle.demi_spec.specs.Reply.{spelling_of}
use Rattle.demi_spec.specs.Reply as reply
use Rattle.demi_spec.specs.Record.{Record, IsRecord, log_of}
use Rattle.demi_spec.specs.Store.{answer, added, serial}
use Rattle.demi_spec.specs.Store as store
use Rattle.demi_audit.specs.declared.text_store.TextStore.{TextStore}
use Rattle.demi_audit.specs.declared.values.Span.{Span}
use Rattle.demi_audit.specs.declared.values.Values.{Values}

-- where an index has the value of a key
abbrev pub span_of : Values → List ℕ → Option Span
span_of values key = get_by (λ k. bytes_eq key k.items) values.spans

-- the bytes that stand there in a text
abbrev pub bytes_at : List ℕ → Span → List ℕ
bytes_at text span = take span.size (drop span.from text)

-- a place within a text
abbrev pub IsWithin : List ℕ → Span → Type 0
IsWithin text span = span.from + span.size ≤ length text

-- An index finds in a text, for each key, the value of the last of these records that has it.
pub record Indexes (text : List ℕ) (values : Values) (records : List Record) : Type 0 where
  pub finds : (key : List ℕ) → option_map (bytes_at text) (span_of values key) ≡ store.map records key
  pub within : (key : List ℕ) → IfSome (span_of values key) (IsWithin text)

-- A store has these records.
pub record Keeps (s : TextStore) (records : List Record) : Type 0 where
  pub text : s.text.items ≡ log_of records
  pub fits : AllByRecursion IsRecord records
  pub index : Indexes s.text.items s.values records
  pub count : s.count ≡ length records

-- the reply to the one with this index on these records, spelled
abbrev pub reply_on : List Record → ℕ → ℕ → Asked → List ℕ
reply_on records limit index ask = spelling_of 0 (index + 1) (answer records limit ask)

-- One was answered on these records: its reply stands behind what was written, and its record behind the others.
pub record Answered (records : List Record) (limit index : ℕ) (ask : Asked) (before after : List ℕ) (s : TextStore) : Type 0 where
  pub says : after ≡ before ++ reply_on records limit index ask
  pub keeps : Keeps s (records ++ added records limit 0 index ask)

abbrev pub asks_of : List Request → List Asked
asks_of requests = map Request_of requests

-- What was written, and what the store has, after all of these.
pub record AnswersAll (old : List Record) (limit : ℕ) (asks : List Asked) (output : List ℕ) (s : TextStore) : Type 0 where
  pub says : output ≡ flat_map reply.spelling (serial old limit asks).replies
  pub keeps : Keeps s (old ++ (serial old limit asks).records)

-- So many requests of an input were answered, and these bytes are left of it.
pub record SoFar (old : List Record) (limit : ℕ) (input left output : List ℕ) (s : TextStore) (count : ℕ) : Type 0 where
  pub requests : List Request
  pub text : input ≡ flat_map request.spelling requests ++ left
  pub go_on : AllGoOn requests
  pub count_is : count ≡ length requests
  pub answers : AnswersAll old limit (asks_of requests) output s
