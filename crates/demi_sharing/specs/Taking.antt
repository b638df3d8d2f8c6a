-- What a worker's caller comes to that took up its share of a session's links.
use Rattle.std.specs.Prelude.{◌≡◌, ℕ, Bool, List, []}
use Rattle.demi_link.specs.Sights.{side_of}
use Rattle.demi_pdpix.specs.Owing.{Owes}
use Rattle.demi_context.specs.ContextPorts.{Caller, Whole, side_at}
use Rattle.demi_sharing.specs.Dealing.{Shares}

-- The caller with this number took up these numbers of so many links, and where it is the first worker's it dealt all out before. It did
-- nothing at other ports, and has nothing outstanding.
pub record TookUp (demi : Whole) (number : ℕ) (first : Bool) (links : ℕ) (numbers : List ℕ) (c : Caller) : Type 0 where
  pub memory : Shares first links numbers (side_of c.memory)
  pub store : c.service.submitted ≡ []
  pub rx : (k : ℕ) → (side_at c.rx k).submitted ≡ []
  pub tx : (k : ℕ) → (side_at c.tx k).submitted ≡ []
  pub owes : Owes demi number [] c
