-- What a contract sees of a link.
use Rattle.std.specs.Prelude.{◌≡◌, ◌≢◌, ℕ, []}
use Rattle.std.specs.List.{AllByRecursion}
use Rattle.demi_sched.specs.declared.next.Next.{Next}
use Rattle.demi_link.specs.Sights.{Sight, nothing_due}
use Rattle.demi_link.specs.Talks.{DeskValue}
use Rattle.demi_link.specs.declared.phase.Phase.{Phase}

-- a link but for where it stands, how often it was polled, where it stands, and what its last poll answered
pub record LinkValue : Type 0 where
  pub desk : DeskValue
  pub polls : ℕ
  pub phase : Phase
  pub last : Next

-- nothing was drawn, popped, pushed or claimed for the link, and no token of it is to be redeemed
pub record IsFresh (s : Sight) (link : ℕ) : Type 0 where
  pub draws : AllByRecursion (λ d. d.link ≢ link) s.draws
  pub pops : s.rx.submitted ≡ []
  pub pushes : s.tx.submitted ≡ []
  pub out : s.out ≡ 0
  pub due : s.due ≡ nothing_due
