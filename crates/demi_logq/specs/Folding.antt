-- What the queue of a log says to an operation, by a fold over the payloads of the log and a cursor.
use Rattle.std.specs.Prelude.{ℕ, ◌+◌, ◌==◌, ◌||◌, min, nat_le, nat_lt, cond, List, [], ◌∷◌, ◌++◌, length, take, flat_map, get_or, Option, Some, None}
use Rattle.demi_heap.specs.Seen.{HalfValue}
use Rattle.demi_port_core.specs.declared.place.Place.{Place}
use Rattle.demi_spec.specs.LogText.{payload_max}
use Rattle.demi_logq.specs.declared.op.LogOp.{LogOp}
use Rattle.demi_logq.specs.declared.op.LogOp.TheVariants.{Push, Pop, Seek, Truncate, Stop}
use Rattle.demi_logq.specs.declared.out.LogOut.{LogOut}
use Rattle.demi_logq.specs.declared.out.LogOut.TheVariants.{Appended, BadSize, LogFull, AtEnd, Sought, Cut, BadIndex, NoSlot, Fault, Broken, Stopped, Halted}
use Rattle.demi_logq.specs.declared.told.LogTold.{LogTold}
use Rattle.demi_logq.specs.declared.told.LogTold.TheVariants.{ByDisk, BySlot}

-- just this outcome, or an item with this payload
pub data Answer : Type 0 where
  Just : (out : LogOut) → Answer
  Entry : (payload : List ℕ) → Answer

-- the payloads of the log, the cursor, and the places of the first stop and of the first fault
pub record Standing : Type 0 where
  pub payloads : List (List ℕ)
  pub cursor : ℕ
  pub stop : Option ℕ
  pub fault : Option ℕ

-- the bytes of an array, in order
abbrev pub bytes_of : List HalfValue → List ℕ
bytes_of sga = flat_map (λ (a : HalfValue). a.bytes) sga

abbrev pub place_at : ℕ → Place
place_at p = record { 0 = p }

-- the disk failed at the place, or this is so
abbrev pub unless_failed : Option LogTold → ℕ → Standing → Answer × Standing → Answer × Standing
unless_failed (Some ByDisk) p s done = (Just Fault, record s { fault = Some p })
unless_failed (Some BySlot) p s done = done
unless_failed None p s done = done

-- a payload of the right size joins the others, where there is room for it
abbrev pub push_open : ℕ → ℕ → List ℕ → Option LogTold → Standing → Answer × Standing
push_open limit p payload struck s =
    cond ((length payload == 0) || nat_lt payload_max (length payload)) (Just BadSize, s)
    (cond (nat_le limit (length s.payloads)) (Just LogFull, s)
    (unless_failed struck p s (Just (Appended (length s.payloads)), record s { payloads = s.payloads ++ payload ∷ [] })))

-- the entry at the cursor is given
abbrev pub pop_one : Option LogTold → ℕ → Standing → Answer × Standing
pop_one (Some ByDisk) p s = (Just Fault, record s { fault = Some p })
pop_one (Some BySlot) p s = (Just NoSlot, s)
pop_one None p s = (Entry (get_or s.payloads s.cursor []), record s { cursor = s.cursor + 1 })

-- where there is one
abbrev pub pop_open : ℕ → Option LogTold → Standing → Answer × Standing
pop_open p struck s = cond (s.cursor == length s.payloads) (Just AtEnd, s) (pop_one struck p s)

-- the cursor moves to a number that is not above that of the payloads
abbrev pub seek_open : ℕ → Standing → Answer × Standing
seek_open index s = cond (nat_lt (length s.payloads) index) (Just BadIndex, s) (Just Sought, record s { cursor = index })

-- the first payloads stay, and the cursor is among them or at their end
abbrev pub truncate_open : ℕ → ℕ → Option LogTold → Standing → Answer × Standing
truncate_open p keep struck s =
    cond (nat_lt (length s.payloads) keep) (Just BadIndex, s)
    (unless_failed struck p s (Just Cut, record s { payloads = take keep s.payloads; cursor = min s.cursor keep }))

-- where no stop came before: a stop is taken, and after a fault nothing else
abbrev pub said_open : ℕ → ℕ → LogOp → Option LogTold → Standing → Option ℕ → Answer × Standing
said_open limit p Stop struck s fault = (Just Halted, record s { stop = Some p })
said_open limit p (Push sga) struck s None = push_open limit p (bytes_of sga) struck s
said_open limit p Pop struck s None = pop_open p struck s
said_open limit p (Seek index) struck s None = seek_open index s
said_open limit p (Truncate keep) struck s None = truncate_open p keep struck s
said_open limit p op struck s (Some at) = (Just (Broken (place_at at)), s)

abbrev pub said_by : ℕ → ℕ → LogOp → Option LogTold → Standing → Option ℕ → Answer × Standing
said_by limit p op struck s (Some at) = (Just (Stopped (place_at at)), s)
said_by limit p op struck s None = said_open limit p op struck s s.fault

-- what is said to an operation at the place p where this stands, and what stands then; `struck` is what is told of the place
abbrev pub said_at : ℕ → ℕ → LogOp → Option LogTold → Standing → Answer × Standing
said_at limit p op struck s = said_by limit p op struck s s.stop

-- what stands behind operations, the first of which is at the place p
abbrev pub standing_from : ℕ → (ℕ → Option LogTold) → ℕ → Standing → List LogOp → Standing
standing_from limit struck p s [] = s
standing_from limit struck p s (op ∷ ops) = standing_from limit struck (p + 1) (said_at limit p op (struck p) s).1 ops

-- at the start the cursor is at the first entry
abbrev pub opened : List (List ℕ) → Standing
opened payloads = record { payloads = payloads; cursor = 0; stop = None; fault = None }

-- what stands behind a history of a log that had these payloads
abbrev pub standing : ℕ → List (List ℕ) → (ℕ → Option LogTold) → List LogOp → Standing
standing limit old struck h = standing_from limit struck 0 (opened old) h

-- what is said to an operation at the place p, on the operations below it
abbrev pub log_result : ℕ → List (List ℕ) → (ℕ → Option LogTold) → List LogOp → ℕ → LogOp → Answer
log_result limit old struck h p op = (said_at limit p op (struck p) (standing limit old struck (take p h))).0
