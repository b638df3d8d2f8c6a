-- Histories with what each of their operations is answered.
use Rattle.std.specs.Prelude.{◌≡◌, ℕ, ◌+◌, List, [], ◌∷◌, refl}
use Rattle.demi_buf.specs.declared.class.Class.TheVariants.{Small}
use Rattle.demi_heap.specs.Seen.{HeapId, HalfValue}
use Rattle.demi_logq.specs.declared.op.LogOp.{LogOp}
use Rattle.demi_logq.specs.declared.op.LogOp.TheVariants.{Push, Pop, Seek, Truncate, Stop}
use Rattle.demi_logq.specs.declared.out.LogOut.TheVariants.{Appended, BadSize, LogFull, AtEnd, Sought, Cut, BadIndex, NoSlot, Fault, Broken, Stopped, Halted}
use Rattle.demi_logq.specs.declared.told.LogTold.{LogTold}
use Rattle.demi_logq.specs.declared.told.LogTold.TheVariants.{ByDisk, BySlot}
use Rattle.demi_logq.specs.Folding.{Answer, Just, Entry, log_result, place_at}
use Rattle.demi_logq.specs.Answers.{struck_at, spread}

-- what is answered at n places from p on
abbrev answers_from : ℕ → List (List ℕ) → List (ℕ × LogTold) → List LogOp → ℕ → List LogOp → List Answer
answers_from limit old t h p [] = []
answers_from limit old t h p (op ∷ ops) = log_result limit old (struck_at t) h p op ∷ answers_from limit old t h (p + 1) ops

-- what each operation is answered
abbrev answers : ℕ → List (List ℕ) → List (ℕ × LogTold) → List LogOp → List Answer
answers limit old t h = answers_from limit old t h 0 h

module _ (heap : HeapId) where
  -- an array of one segment
  abbrev array : List ℕ → List HalfValue
  array bytes = record { heap = heap; slot = 0; class = Small; bytes = bytes; clock = 0; held = [] } ∷ []

  abbrev x : List HalfValue
  x = array (0x78 ∷ [])

  a_log_is_written_read_and_cut : answers 10 [] [] (Push x ∷ Pop ∷ Pop ∷ Seek 2 ∷ Seek 0 ∷ Truncate 0 ∷ Pop ∷ [])
      ≡ Just (Appended 0) ∷ Entry (0x78 ∷ []) ∷ Just AtEnd ∷ Just BadIndex ∷ Just Sought ∷ Just Cut ∷ Just AtEnd ∷ []
  a_log_is_written_read_and_cut = refl

  -- of a log of two entries the second is cut off, and the cursor that stood behind it stands at the end
  a_cut_lowers_the_cursor : answers 10 ((0x61 ∷ []) ∷ (0x62 ∷ []) ∷ []) [] (Seek 2 ∷ Truncate 1 ∷ Push x ∷ Pop ∷ [])
      ≡ Just Sought ∷ Just Cut ∷ Just (Appended 1) ∷ Entry (0x78 ∷ []) ∷ []
  a_cut_lowers_the_cursor = refl

  a_cursor_before_the_cut_stays : answers 10 ((0x61 ∷ []) ∷ (0x62 ∷ []) ∷ []) [] (Truncate 1 ∷ Pop ∷ Truncate 2 ∷ [])
      ≡ Just Cut ∷ Entry (0x61 ∷ []) ∷ Just BadIndex ∷ []
  a_cursor_before_the_cut_stays = refl

  an_array_of_no_bytes : answers 1 [] [] (Push (array []) ∷ Push x ∷ Push (array []) ∷ Push x ∷ [])
      ≡ Just BadSize ∷ Just (Appended 0) ∷ Just BadSize ∷ Just LogFull ∷ []
  an_array_of_no_bytes = refl

  a_pop_without_a_slot_is_made_again : answers 10 ((0x61 ∷ []) ∷ []) ((0, BySlot) ∷ []) (Pop ∷ Pop ∷ Pop ∷ [])
      ≡ Just NoSlot ∷ Entry (0x61 ∷ []) ∷ Just AtEnd ∷ []
  a_pop_without_a_slot_is_made_again = refl

  after_a_fault_all_but_a_stop_is_broken : answers 10 [] ((1, ByDisk) ∷ []) (Push x ∷ Push x ∷ Pop ∷ Seek 9 ∷ Stop ∷ Pop ∷ [])
      ≡ Just (Appended 0) ∷ Just Fault ∷ Just (Broken (place_at 1)) ∷ Just (Broken (place_at 1)) ∷ Just Halted ∷ Just (Stopped (place_at 4)) ∷ []
  after_a_fault_all_but_a_stop_is_broken = refl

-- an item of more bytes than the largest slot has two segments
spread_over_two : spread 65537 ≡ 65536 ∷ 1 ∷ []
spread_over_two = refl

spread_over_one : spread 65536 ≡ 65536 ∷ []
spread_over_one = refl
