-- Histories of the store with what is said to each of their operations.
use Rattle.std.specs.Prelude.{◌≡◌, ℕ, ◌+◌, List, [], ◌∷◌, Some, None, refl}
use Rattle.arrayvec.specs.ArrayVec.{ArrayVec}
use Rattle.demi_buf.specs.declared.class.Class.TheVariants.{Small, Large}
use Rattle.demi_heap.specs.Seen.{HeapId, HalfValue}
use Rattle.demi_spec.specs.Record.{Record}
use Rattle.demi_spec.specs.Reply.{Stored, Found, Missing, Full}
use Rattle.demi_store.specs.declared.ask.StoreAsk.{StoreAsk}
use Rattle.demi_store.specs.declared.op.StoreOp.{StoreOp}
use Rattle.demi_store.specs.declared.op.StoreOp.TheVariants.{Put, Get, Stop}
use Rattle.demi_store.specs.declared.told.StoreTold.{StoreTold}
use Rattle.demi_store.specs.declared.told.StoreTold.TheVariants.{ByDisk, ByMemory}
use Rattle.demi_store.specs.History.{Said, Told, Fault, NoMemory, Broken, Stopped, Halted, store_result, struck_at}

-- what is said from the place p on
abbrev said_from : ℕ → List Record → List (ℕ × StoreTold) → List StoreAsk → ℕ → List StoreAsk → List Said
said_from limit old t h p [] = []
said_from limit old t h p (a ∷ asks) = store_result limit old (struck_at t) h p a ∷ said_from limit old t h (p + 1) asks

-- what is said to each operation
abbrev said : ℕ → List Record → List (ℕ × StoreTold) → List StoreAsk → List Said
said limit old t h = said_from limit old t h 0 h

module _ (heap : HeapId) where
  abbrev segment : List ℕ → HalfValue
  segment bytes = record { heap = heap; slot = 0; class = Small; bytes = bytes; clock = 0; held = [] }

  abbrev room : HalfValue
  room = record { heap = heap; slot = 1; class = Large; bytes = []; clock = 0; held = [] }

  abbrev a : ArrayVec ℕ
  a = record { items = 0x61 ∷ [] }

  abbrev asks : StoreOp → StoreAsk
  asks op = record { sequence = 1; op = op }

  -- put a=1, get a, put a=2, get a
  a_get_sees_the_puts_before_it : said 10 [] [] (asks (Put 0 0 a (Some (segment (0x31 ∷ []) ∷ []))) ∷ asks (Get a room) ∷ asks (Put 0 2 a (Some (segment (0x32 ∷ []) ∷ []))) ∷ asks (Get a room) ∷ [])
      ≡ Told (Stored 1 (0x31 ∷ [])) ∷ Told (Found 1 (0x31 ∷ [])) ∷ Told (Stored 2 (0x32 ∷ [])) ∷ Told (Found 2 (0x32 ∷ [])) ∷ []
  a_get_sees_the_puts_before_it = refl

  -- a value of no bytes is found, too
  an_empty_value_is_found : said 10 [] [] (asks (Get a room) ∷ asks (Put 0 1 a None) ∷ asks (Get a room) ∷ []) ≡ Told (Missing 0) ∷ Told (Stored 1 []) ∷ Told (Found 1 []) ∷ []
  an_empty_value_is_found = refl

  -- at the limit neither the disk nor memory is needed
  a_full_store_still_answers : said 1 (record { link = 0; index = 0; key = 0x61 ∷ []; value = 0x31 ∷ [] } ∷ []) ((0, ByDisk) ∷ []) (asks (Put 0 1 a None) ∷ asks (Get a room) ∷ [])
      ≡ Told (Full 1) ∷ Told (Found 1 (0x31 ∷ [])) ∷ []
  a_full_store_still_answers = refl

  want_of_memory_stores_nothing : said 10 [] ((0, ByMemory) ∷ []) (asks (Put 0 0 a None) ∷ asks (Get a room) ∷ asks (Put 0 2 a None) ∷ [])
      ≡ NoMemory ∷ Told (Missing 0) ∷ Told (Stored 1 []) ∷ []
  want_of_memory_stores_nothing = refl

  after_a_fault_all_but_a_stop_is_broken : said 10 [] ((1, ByDisk) ∷ []) (asks (Put 0 0 a None) ∷ asks (Get a room) ∷ asks (Put 0 2 a None) ∷ asks Stop ∷ asks (Get a room) ∷ [])
      ≡ Told (Stored 1 []) ∷ Fault ∷ Broken 1 ∷ Halted ∷ Stopped 3 ∷ []
  after_a_fault_all_but_a_stop_is_broken = refl
