-- Histories with what each of their operations is answered.
use Rattle.std.proofs.Common.{ap}
use Rattle.std.specs.Prelude.{◌≡◌, ℕ, zero, suc, ◌+◌, List, [], ◌∷◌, Option, Some, None, length, replicate, refl}
use Rattle.demi_heap.specs.Seen.{HalfValue, SawHeld}
use Rattle.demi_memq.specs.declared.op.MemOp.{MemOp}
use Rattle.demi_memq.specs.declared.op.MemOp.TheVariants.{Queue, Push, Pop, Close, Stop}
use Rattle.demi_memq.specs.declared.out.MemOut.{MemOut}
use Rattle.demi_memq.specs.declared.out.MemOut.TheVariants.{Opened, TooMany, Pushed, BadQueue, Shut, Closed, QueueFull, Item, Halted}
use Rattle.demi_memq.specs.Said.{array_said}
use Rattle.demi_memq.specs.Counting.{result_at, stopped_at}

-- what is answered at n places from p on
abbrev answers_from : ℕ → List MemOp → ℕ → ℕ → List (Option MemOut)
answers_from limit h p zero = []
answers_from limit h p (suc n) = result_at limit h p ∷ answers_from limit h (p + 1) n

-- what each operation is answered
abbrev answers : ℕ → List MemOp → List (Option MemOut)
answers limit h = answers_from limit h 0 (length h)

module _ (w x y z : List HalfValue) where
  pops_before_their_pushes : answers 1024 (Queue ∷ Pop 0 ∷ Pop 0 ∷ Push 0 x ∷ Push 0 y ∷ Close 0 ∷ Pop 0 ∷ [])
      ≡ Some (Opened 0) ∷ Some (Item x) ∷ Some (Item y) ∷ Some Pushed ∷ Some Pushed ∷ Some Shut ∷ Some Closed ∷ []
  pops_before_their_pushes = refl

  -- with room for two items
  a_full_queue : answers 2 (Queue ∷ Push 0 x ∷ Push 0 y ∷ Push 0 z ∷ Pop 0 ∷ Push 0 w ∷ [])
      ≡ Some (Opened 0) ∷ Some Pushed ∷ Some Pushed ∷ Some QueueFull ∷ Some (Item x) ∷ Some Pushed ∷ []
  a_full_queue = refl

  -- with room for one item, which waits in another queue
  a_push_for_a_pop_that_waits : answers 1 (Queue ∷ Queue ∷ Push 0 x ∷ Pop 1 ∷ Push 1 y ∷ Push 1 z ∷ [])
      ≡ Some (Opened 0) ∷ Some (Opened 1) ∷ Some Pushed ∷ Some (Item y) ∷ Some Pushed ∷ Some QueueFull ∷ []
  a_push_for_a_pop_that_waits = refl

  a_stop : answers 1024 (Queue ∷ Pop 0 ∷ Stop ∷ Push 0 x ∷ []) ≡ Some (Opened 0) ∷ Some (stopped_at 2) ∷ Some Halted ∷ Some (stopped_at 2) ∷ []
  a_stop = refl

  a_second_stop : answers 1024 (Stop ∷ Queue ∷ Stop ∷ []) ≡ Some Halted ∷ Some (stopped_at 0) ∷ Some (stopped_at 0) ∷ []
  a_second_stop = refl

  no_such_queue : answers 1024 (Push 0 x ∷ Pop 0 ∷ Close 0 ∷ Queue ∷ Pop 1 ∷ []) ≡ Some BadQueue ∷ Some BadQueue ∷ Some BadQueue ∷ Some (Opened 0) ∷ Some BadQueue ∷ []
  no_such_queue = refl

  two_queues : answers 1024 (Queue ∷ Queue ∷ Push 1 x ∷ Pop 0 ∷ Pop 1 ∷ Push 0 y ∷ [])
      ≡ Some (Opened 0) ∷ Some (Opened 1) ∷ Some Pushed ∷ Some (Item y) ∷ Some (Item x) ∷ Some Pushed ∷ []
  two_queues = refl

  -- what waits in a closed queue is taken, and then nothing
  a_closed_queue : answers 1024 (Queue ∷ Push 0 x ∷ Close 0 ∷ Push 0 y ∷ Close 0 ∷ Pop 0 ∷ Pop 0 ∷ [])
      ≡ Some (Opened 0) ∷ Some Pushed ∷ Some Shut ∷ Some Closed ∷ Some Closed ∷ Some (Item x) ∷ Some Closed ∷ []
  a_closed_queue = refl

a_pop_that_waits : answers 1024 (Queue ∷ Pop 0 ∷ []) ≡ Some (Opened 0) ∷ None ∷ []
a_pop_that_waits = refl

the_last_queue : result_at 1024 (replicate 257 Queue) 255 ≡ Some (Opened 255)
the_last_queue = refl

a_queue_too_many : result_at 1024 (replicate 257 Queue) 256 ≡ Some TooMany
a_queue_too_many = refl

-- an array stays the same whatever a holder of its half finds
what_was_found_is_not_said : (a b : HalfValue) → SawHeld a b → array_said (b ∷ []) ≡ array_said (a ∷ [])
what_was_found_is_not_said a b found = ap (λ (z : HalfValue). array_said (z ∷ [])) found.2
