-- The callers of a session's workers before these begin: the first has asked for queue 0, and the others have learnt of that.
use Rattle.std.specs.Prelude.{◌≡◌, ℕ, ◌+◌, List, [], ◌∷◌, Option, Some, None}
use Rattle.demi_link.specs.Sights.{side_of}
use Rattle.demi_memq.specs.declared.op.MemOp.TheVariants.{Queue}
use Rattle.demi_pdpix.specs.Owing.{Owes}
use Rattle.demi_pdpix.specs.Seen.{as_list}
use Rattle.demi_port_core.specs.declared.place.QToken.{QToken}
use Rattle.demi_context.specs.ContextPorts.{Caller, Whole, side_at}
use Rattle.demi_sharing.specs.Dealing.{MemSide}

-- with this token the pass asked for a queue, and did nothing else; or it did nothing
abbrev pub HasAsked : Option QToken → MemSide → Type 0
HasAsked None p = p.submitted ≡ []
HasAsked (Some t) p = (t.port ≡ 0) × ((place : ℕ) × (p.submitted ≡ (place, (t.token.0, Queue)) ∷ []))

-- The caller with this number has asked for a queue with this token, if any, and did nothing else.
pub record IsSetOut (demi : Whole) (number : ℕ) (opening : Option QToken) (c : Caller) : Type 0 where
  pub memory : HasAsked opening (side_of c.memory)
  pub store : c.service.submitted ≡ []
  pub rx : (k : ℕ) → (side_at c.rx k).submitted ≡ []
  pub tx : (k : ℕ) → (side_at c.tx k).submitted ≡ []
  pub owes : Owes demi number (as_list opening) c

-- so have these callers, with the numbers from this one on, of whom only the first may have asked
abbrev pub AreSetOut : Whole → ℕ → Option QToken → List Caller → Type 0
AreSetOut demi n opening [] = Unit {0}
AreSetOut demi n opening (c ∷ cs) = IsSetOut demi n opening c × AreSetOut demi (n + 1) None cs
