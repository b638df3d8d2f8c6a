-- What works for one worker of a session: before its work, after it, and at the last.
use Rattle.std.specs.Prelude.{◌≡◌, ℕ, ◌+◌, Bool, List, [], ◌∷◌, Option, None, is_some, length}
use Rattle.std.proofs.Common.{subst, sym}
use Rattle.arrayvec.specs.ArrayVec.{ArrayVec}
use Rattle.demi_link.specs.Sights.{side_of}
use Rattle.demi_memq.specs.declared.op.MemOp.TheVariants as memory
use Rattle.demi_pdpix.specs.Owing.{Owes}
use Rattle.demi_pdpix.specs.Seen.{IsOf}
use Rattle.demi_port_core.specs.declared.place.QToken.{QToken}
use Rattle.demi_worker.specs.declared.ended.Ended.{Ended}
use Rattle.demi_closed.specs.Closed.{Added}
use Rattle.demi_closed.specs.OnlyLink.{store_stop}
use Rattle.demi_context.specs.ContextPorts.{Caller, SameRx, SameTx, Whole}
use Rattle.demi_sharing.specs.Dealing.{Shares}
use Rattle.demi_crew.specs.Serving.{ServedLinks}

-- a worker's work: it has not begun, and this is its caller, with the token by which it asked for the queue of the links' numbers, if it
-- did; or it is done, and the caller is there again, with what became of its links; or neither, while it works
pub data StageValue : Type 0 where
  Ready : (caller : Caller) (opening : Option QToken) → StageValue
  Done : (caller : Caller) (ended : List Ended) → StageValue
  Between : StageValue

-- who works for the worker of this number, with its whole
pub record HandValue : Type 0 where
  pub demi : Whole
  pub number : ℕ
  pub stage : StageValue

-- The work has not begun.
abbrev pub MayWork : HandValue → Type 0
MayWork h = (caller : Caller) × (opening : Option QToken) × (h.stage ≡ Ready caller opening)

-- The worker of this number took up these links' numbers, where it is the first after it had dealt all out, and served these links until
-- each had ended.
pub record ServedShare (demi : Whole) (number : ℕ) (first : Bool) (caller : Caller) (numbers : List ℕ) (ended : List Ended) : Type 0 where
  pub shares : Shares first (length demi.rx) numbers (side_of caller.memory)
  pub served : ServedLinks demi number numbers caller ended

-- Its work was done.
pub record HasServed (a b : HandValue) : Type 0 where
  pub demi : b.demi ≡ a.demi
  pub number : b.number ≡ a.number
  pub was : Caller
  pub opening : Option QToken
  pub ready : a.stage ≡ Ready was opening
  pub caller : Caller
  pub ended : List Ended
  pub stage : b.stage ≡ Done caller ended
  pub numbers : List ℕ
  pub share : ServedShare a.demi a.number (is_some opening) caller numbers ended

-- The work is done.
abbrev pub MayFinish : HandValue → Type 0
MayFinish h = (caller : Caller) × (ended : List Ended) × (h.stage ≡ Done caller ended) × IsOf h.demi caller

-- After its work it stopped the memory queues and the store, and redeemed both stops.
pub record HasFinished (a b : HandValue) : Type 0 where
  pub demi : b.demi ≡ a.demi
  pub number : b.number ≡ a.number
  pub before : Caller
  pub after : Caller
  pub ended : List Ended
  pub was : a.stage ≡ Done before ended
  pub is : b.stage ≡ Done after ended
  pub of : IsOf a.demi after
  pub memory_stop : Added memory.Stop (side_of before.memory) after.memory
  pub store_stops : Added store_stop (side_of before.service) after.service
  pub rx : SameRx before after
  pub tx : SameTx before after
  pub owes : (n : ℕ) → Owes a.demi n [] before → Owes a.demi n [] after

-- who has done its work may finish
pub may_finish_after : (a b : HandValue) → MayWork a → HasServed a b → MayFinish b
may_finish_after a b ready s = (s.caller, s.ended, s.stage, subst (λ d. IsOf d s.caller) (sym s.demi) s.share.served.owes.0)

-- those who work for the workers with these callers, with the numbers from this one on, of whom the first asked for the queue
abbrev pub hands_of : Whole → ℕ → Option QToken → List Caller → List HandValue
hands_of demi n opening [] = []
hands_of demi n opening (c ∷ cs) = record { demi = demi; number = n; stage = Ready c opening } ∷ hands_of demi (n + 1) None cs

-- their work is done, and each has its caller and what became of its links
abbrev pub AreDone : List HandValue → List Caller → List (ArrayVec Ended) → Type 0
AreDone [] [] [] = Unit {0}
AreDone (h ∷ hs) (c ∷ cs) (e ∷ es) = (h.stage ≡ Done c e.items) × AreDone hs cs es
AreDone hs cs es = ⊥
