-- All devices of a session ran beside its one worker.
use Rattle.std.specs.Prelude.{◌≡◌, ℕ, List, Option, Bool}
use Rattle.demi_worker.specs.declared.ended.Ended.{Ended}
use Rattle.demi_context.specs.ContextPorts.{Caller, Whole}
use Rattle.demi_server.specs.Gathering.{AllDevices, AreFor, AreUnused, Have}
use Rattle.demi_server.specs.Hands.{Done, HandValue, HasFinished, HasServed}
use Rattle.demi_server.specs.Runs.{MemRan, RxRan, StoreRan, TxRan}
use Rattle.demi_work.specs.Working.{BothDone, EachBecame, Then}
use Rattle.demi_server.specs.declared.parts.Parts.{Parts}

-- From these parts the devices of the whole were made, ran beside one worker of the number 0, which served its link and at the last
-- stopped all, and were taken apart; this is then the worker's caller, and what became of its links.
pub record RanOver {I O D : Type 0} (taken : I → ℕ) (left : I → Option (List ℕ)) (read_faults : I → ℕ) (reads : I → ℕ → Option (List ℕ) → I → Type 0) (written : O → Option (List ℕ)) (write_faults : O → ℕ)
    (bytes : D → Option (List ℕ)) (held faults : D → ℕ) (appends : D → List ℕ → Bool → D → Type 0) (looks : D → D → Type 0)
    (d : Whole) (p q : Parts I O D) (caller : Caller) (ended : List Ended) : Type 0 where
  pub v : AllDevices I O D
  pub w : AllDevices I O D
  pub for : AreFor d p
  pub made : Have v p
  pub unused : AreUnused v
  pub memory : MemRan v.memory w.memory
  pub store : StoreRan bytes held faults appends looks v.store w.store
  pub links : EachBecame (BothDone (RxRan taken left read_faults reads) (TxRan written write_faults)) v.links w.links
  pub same_pass : w.service_pass ≡ v.service_pass
  pub had : Have w q
  pub first : HandValue
  pub last : HandValue
  pub demi_is : first.demi ≡ d
  pub number_is : first.number ≡ 0
  pub did : Then HasServed HasFinished first last
  pub done : last.stage ≡ Done caller ended
