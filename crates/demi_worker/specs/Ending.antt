-- How a link begins at its worker, and what becomes of it.
use Rattle.std.specs.Prelude.{◌≡◌, ◌⊎◌, ℕ, ◌++◌, List, [], ◌∷◌}
use Rattle.demi_served.specs.Keeps.{WorkerKeeps}
use Rattle.demi_link.specs.Ends.{new_desk}
use Rattle.demi_link.specs.Fitting.{Fits}
use Rattle.demi_link.specs.Linked.{IsFresh}
use Rattle.demi_link.specs.Sights.{Sight, nothing_due, worker_of}
use Rattle.demi_link.specs.Talks.{DeskValue, TalkValue}
use Rattle.demi_link.specs.declared.phase.Cause.{Cause}
use Rattle.demi_link.specs.declared.phase.Cause.TheVariants.{NoMemory}
use Rattle.demi_link.specs.declared.phase.Phase.TheVariants.{Over, Reading}
use Rattle.demi_worker.specs.declared.ended.Ended.{Ended}

-- The worker of this number did nothing for the link yet, and keeps its own.
pub record IsNew (worker_number : ℕ) (s : Sight) (link : ℕ) : Type 0 where
  pub fresh : IsFresh s link
  pub number : s.number ≡ worker_number
  pub worker : WorkerKeeps (worker_of s)

-- A link was refused memory before anything of it was read: it is as it is when it is made.
pub record NeverBegan (ports : ℕ) (s : Sight) (d : DeskValue) (why : Cause) : Type 0 where
  pub cause : why ≡ NoMemory
  pub desk : d ≡ new_desk d.link d.worker
  pub fits : Fits ports s d Reading

-- By what its worker had for it, the link with this number and talk was served until it was over for this cause; or it never
-- began.
pub record IsServed (ports number : ℕ) (why : Cause) (did : TalkValue) (s : Sight) : Type 0 where
  pub desk : DeskValue
  pub link : desk.link ≡ number
  pub talk : desk.talk ≡ did
  pub over : Fits ports s desk (Over why) ⊎ NeverBegan ports s desk why

-- Behind those that were listed before stands one more: a link of this number with its cause and talk, and what its worker
-- had for it.
pub record Lists (before after : List Ended) (number : ℕ) (why : Cause) (did : TalkValue) (s : Sight) : Type 0 where
  pub last : Ended
  pub all : after ≡ before ++ last ∷ []
  pub link : last.link ≡ number
  pub cause : last.cause ≡ why
  pub talk : last.talk.value ≡ did
  pub had : last.had.value ≡ s

-- Each half that was taken for the link was given back, and each token of its submissions was redeemed.
pub record OwesNothing (s : Sight) : Type 0 where
  pub out : s.out ≡ 0
  pub due : s.due ≡ nothing_due
