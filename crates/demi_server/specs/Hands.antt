-- What works for one worker of a session with one link, before its work, after it, and at the last.
use Rattle.std.specs.Prelude.{◌≡◌, ◌≢◌, ℕ, List, [], ◌∷◌}
use Rattle.std.proofs.Common.{subst, sym}
use Rattle.std.specs.List.{AllByRecursion}
use Rattle.demi_link.specs.Ends.{IsKnown}
use Rattle.demi_link.specs.Sights.{side_of, worker_of}
use Rattle.demi_memq.specs.declared.op.MemOp.TheVariants as memory
use Rattle.demi_pdpix.specs.Owing.{Owes}
use Rattle.demi_pdpix.specs.Seen.{IsOf}
use Rattle.demi_served.specs.Alone.{AsksAll}
use Rattle.demi_worker.specs.Ending.{IsServed, OwesNothing}
use Rattle.demi_worker.specs.Stopping.{IsLeft}
use Rattle.demi_worker.specs.declared.ended.Ended.{Ended}
use Rattle.demi_closed.specs.Closed.{Added}
use Rattle.demi_context.specs.ContextPorts.{Caller, SameRx, SameTx, Whole}
use Rattle.demi_context.specs.ContextSights.{ContextValue, ports_of, sight_of}
use Rattle.demi_closed.specs.OnlyLink.{store_stop}

-- a worker's work: it has not begun, and this is its caller; or it is done, and the caller is there again, with what became of its
-- links; or neither, while it works
pub data StageValue : Type 0 where
  Ready : (caller : Caller) → StageValue
  Done : (caller : Caller) (ended : List Ended) → StageValue
  Between : StageValue

-- who works for the worker of this number, with its whole
pub record HandValue : Type 0 where
  pub demi : Whole
  pub number : ℕ
  pub stage : StageValue

-- The work has not begun.
abbrev pub MayWork : HandValue → Type 0
MayWork h = (caller : Caller) × (h.stage ≡ Ready caller)

-- The link 0 was served until it had ended, and its ports were stopped: by what the worker had for it then it was served to this
-- end, was not lost, and nothing is owed; of that nothing changed but that both ports were stopped. Numbers were drawn for no other
-- link, and the store was asked with each number that was drawn for a request that asks it.
pub record ServedLink (demi : Whole) (number : ℕ) (caller : Caller) (ended : List Ended) : Type 0 where
  pub context : ContextValue
  pub demi_is : context.demi ≡ demi
  pub caller_is : context.caller ≡ caller
  pub number_is : context.number ≡ number
  pub end : Ended
  pub only : ended ≡ end ∷ []
  pub link : end.link ≡ 0
  pub known : IsKnown end.cause
  pub served : IsServed (ports_of context) 0 end.cause end.talk.value end.had.value
  pub left : IsLeft 0 end.had.value (sight_of context 0)
  pub paid : OwesNothing (sight_of context 0)
  pub others : (l : ℕ) → l ≢ 0 → AllByRecursion (λ x. x.link ≢ l) context.ledger.draws
  pub asks : AsksAll (worker_of (sight_of context 0))
  pub owes : Owes demi number [] caller

-- Its work was done.
pub record HasServed (a b : HandValue) : Type 0 where
  pub demi : b.demi ≡ a.demi
  pub number : b.number ≡ a.number
  pub caller : Caller
  pub ended : List Ended
  pub stage : b.stage ≡ Done caller ended
  pub served : ServedLink a.demi a.number caller ended

-- The work is done.
abbrev pub MayFinish : HandValue → Type 0
MayFinish h = (caller : Caller) × (ended : List Ended) × (h.stage ≡ Done caller ended) × IsOf h.demi caller

-- After its work it stopped the memory queues and the store, and redeemed both stops.
pub record HasFinished (a b : HandValue) : Type 0 where
  pub demi : b.demi ≡ a.demi
  pub number : b.number ≡ a.number
  pub before : Caller
  pub after : Caller
  pub ended : List Ended
  pub was : a.stage ≡ Done before ended
  pub is : b.stage ≡ Done after ended
  pub of : IsOf a.demi after
  pub memory_stop : Added memory.Stop (side_of before.memory) after.memory
  pub store_stops : Added store_stop (side_of before.service) after.service
  pub rx : SameRx before after
  pub tx : SameTx before after
  pub owes : (n : ℕ) → Owes a.demi n [] before → Owes a.demi n [] after

-- who has done its work may finish
pub may_finish_after : (a b : HandValue) → MayWork a → HasServed a b → MayFinish b
may_finish_after a b ready s = (s.caller, s.ended, s.stage, subst (λ d. IsOf d s.caller) (sym s.demi) s.served.owes.0)
