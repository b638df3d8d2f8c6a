use Rattle.std.proofs.Common.{◌≡◌, ℕ, ◌<◌, [], length, subst}
use Rattle.demi_pdpix.specs.Owing.{Owes}
use Rattle.demi_served.specs.Alone.{AsksAll}
use Rattle.demi_link.specs.Sights.{nothing_due, worker_of}
use Rattle.demi_context.specs.ContextLedgers.{due_of}
use Rattle.demi_context.specs.ContextSights.{ContextValue, sight_of}
use Rattle.demi_context.proofs.ContextSteps.{owes_nothing}
use Rattle.demi_context.proofs.context.Context.parts.Goals as goal

pub returns-clause-owes : goal.returns-clause-owes
returns-clause-owes c =
    let i = c.self.inside in
    subst (λ (v : ContextValue). ((link : ℕ) → link < length v.demi.rx → due_of v.ledger link ≡ nothing_due) → Owes v.demi v.number [] i.caller) c.self.view_is
    (owes_nothing i.demi.now i.caller i.number i.links i.drawn i.ledger.value c.self.invariant)

pub returns-clause-asks : goal.returns-clause-asks
returns-clause-asks c link = subst (λ (v : ContextValue). AsksAll (worker_of (sight_of v link))) c.self.view_is c.self.invariant.asks
