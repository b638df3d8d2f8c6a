-- What the store says to an operation, by a fold over the records of its log.
use Rattle.std.specs.Prelude.{ℕ, ◌+◌, ◌==◌, nat_le, cond, List, [], ◌∷◌, ◌++◌, length, take, Option, Some, None}
use Rattle.arrayvec.specs.ArrayVec.{ArrayVec}
use Rattle.demi_heap.specs.Seen.{HalfValue}
use Rattle.demi_logq.specs.Folding.{bytes_of}
use Rattle.demi_spec.specs.Input.{Asked, Request_of}
use Rattle.demi_spec.specs.Record.{Record}
use Rattle.demi_spec.specs.Reply.{Answer}
use Rattle.demi_spec.specs.Request as request
use Rattle.demi_spec.specs.Store.{answer, added}
use Rattle.demi_store.specs.declared.ask.StoreAsk.{StoreAsk}
use Rattle.demi_store.specs.declared.op.StoreOp.{StoreOp}
use Rattle.demi_store.specs.declared.op.StoreOp.TheVariants.{Put, Get, Stop}
use Rattle.demi_store.specs.declared.told.StoreTold.{StoreTold}
use Rattle.demi_store.specs.declared.told.StoreTold.TheVariants.{ByDisk, ByMemory}

-- the bytes of a value that is put
abbrev pub value_bytes : Option (List HalfValue) → List ℕ
value_bytes None = []
value_bytes (Some sga) = bytes_of sga

-- the record of a put
abbrev pub record_of_put : ℕ → ℕ → ArrayVec ℕ → Option (List HalfValue) → Record
record_of_put link index key value = record { link = link; index = index; key = key.items; value = value_bytes value }

-- what is said: the one-thread store's answer, or why there is none
pub data Said : Type 0 where
  Told : (answer : Answer) → Said
  Fault : Said
  NoMemory : Said
  Broken : (place : ℕ) → Said
  Stopped : (place : ℕ) → Said
  Halted : Said

-- the records, and the places of the first stop and of the first fault
pub record Standing : Type 0 where
  pub records : List Record
  pub stop : Option ℕ
  pub fault : Option ℕ

-- the one-thread store's answer to a request of a link, and its record with the others
abbrev pub answered : ℕ → ℕ → ℕ → Standing → Asked → Said × Standing
answered limit link index s ask = (Told (answer s.records limit ask), record s { records = s.records ++ added s.records limit link index ask })

-- Where no stop and no fault came before: a put that is to be stored needs the disk and memory, and one that is not needs neither.
abbrev pub put_open : ℕ → ℕ → ℕ → ℕ → Standing → Asked → Option StoreTold → Said × Standing
put_open limit place link index s ask None = answered limit link index s ask
put_open limit place link index s ask (Some ByDisk) = cond (nat_le limit (length s.records)) (answered limit link index s ask) (Fault, record s { fault = Some place })
put_open limit place link index s ask (Some ByMemory) = cond (nat_le limit (length s.records)) (answered limit link index s ask) (NoMemory, s)

-- a get needs the disk alone
abbrev pub get_open : ℕ → ℕ → Standing → Asked → Option StoreTold → Said × Standing
get_open limit place s ask (Some ByDisk) = (Fault, record s { fault = Some place })
get_open limit place s ask (Some ByMemory) = (Told (answer s.records limit ask), s)
get_open limit place s ask None = (Told (answer s.records limit ask), s)

-- where no stop came before: a stop is taken, and after a fault nothing else
abbrev pub said_open : ℕ → ℕ → Standing → StoreOp → Option StoreTold → Option ℕ → Said × Standing
said_open limit place s Stop struck fault = (Halted, record s { stop = Some place })
said_open limit place s (Put link index key value) struck None = put_open limit place link index s (Request_of (request.Put key.items (value_bytes value))) struck
said_open limit place s (Get key room) struck None = get_open limit place s (Request_of (request.Get key.items)) struck
said_open limit place s op struck (Some at) = (Broken at, s)

abbrev pub said_by : ℕ → ℕ → Standing → StoreOp → Option StoreTold → Option ℕ → Said × Standing
said_by limit place s op struck (Some at) = (Stopped at, s)
said_by limit place s op struck None = said_open limit place s op struck s.fault

-- what is said to an operation at a place where this stands, and what stands then; `struck` is what is told of the place
abbrev pub said_at : ℕ → ℕ → Standing → StoreAsk → Option StoreTold → Said × Standing
said_at limit place s ask struck = said_by limit place s ask.op struck s.stop

-- what stands behind operations, the first of which is at this place
abbrev pub standing_from : ℕ → (ℕ → Option StoreTold) → ℕ → Standing → List StoreAsk → Standing
standing_from limit struck place s [] = s
standing_from limit struck place s (a ∷ asks) = standing_from limit struck (place + 1) (said_at limit place s a (struck place)).1 asks

-- at the start
abbrev pub opened : List Record → Standing
opened records = record { records = records; stop = None; fault = None }

-- what stands behind a history of a store that had these records
abbrev pub standing : ℕ → List Record → (ℕ → Option StoreTold) → List StoreAsk → Standing
standing limit old struck asks = standing_from limit struck 0 (opened old) asks

-- what the store says to an operation at a place, on the operations below it
abbrev pub store_result : ℕ → List Record → (ℕ → Option StoreTold) → List StoreAsk → ℕ → StoreAsk → Said
store_result limit old struck asks place ask = (said_at limit place (standing limit old struck (take place asks)) ask (struck place)).0

-- what a trail tells of a place
abbrev pub struck_at : List (ℕ × StoreTold) → ℕ → Option StoreTold
struck_at [] p = None
struck_at (t ∷ trail) p = cond (t.0 == p) (Some t.1) (struck_at trail p)
