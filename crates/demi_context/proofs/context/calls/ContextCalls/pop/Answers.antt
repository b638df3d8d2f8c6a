use Rattle.std.proofs.Common.{◌≡◌, ap, length, refl, ◌∙◌}
use Rattle.demi_pdpix.specs.declared.kind.PortKind.TheVariants.{Receiving}
use Rattle.demi_link.specs.Sights.{Side}
use Rattle.demi_context.specs.ContextLedgers.{Entry, LedgerValue, after_pop}
use Rattle.demi_context.proofs.ContextAsks.{asks_same}
use Rattle.demi_context.proofs.ContextSteps.{rx_more, same_dues, sound_more, sound_same}
use Rattle.demi_context.proofs.context.calls.ContextCalls.pop.Goals as goal

pub invariant_of-self-in-Some : goal.invariant_of-self-in-Some
invariant_of-self-in-Some c =
    let l = c.self.inside.ledger.value in
    let m = c.popped.result.value in
    let is : m ≡ after_pop (record { ledger = l; link = c.args.link }) c.in-Some.token = c.popped.ensures ∙ ap (λ (e : Entry). after_pop e c.in-Some.token) c.of_link.ensures in
    sound_more c.self.inside.demi.now c.self.inside.caller c.pop_at.new.caller c.self.inside.number c.self.inside.links c.self.inside.drawn l m c.self.invariant c.pop_at.ensures.of (Receiving c.args.link) c.self.inside.drawn c.in-Some.ensures.some.2
    (asks_same c.self.inside.caller c.pop_at.new.caller l m (ap (λ (s : Side _ _). s.submitted) c.pop_at.ensures.others.0) (ap (λ (x : LedgerValue). x.draws) is) c.self.invariant.asks)
    (ap (λ (x : LedgerValue). length x.draws) is ∙ c.self.invariant.numbers)
    (rx_more c.self.inside.links c.args.link l m _ (ap (λ (x : LedgerValue). x.dues) is) refl refl refl)

pub invariant_of-self-in-None : goal.invariant_of-self-in-None
invariant_of-self-in-None c =
    let l = c.self.inside.ledger.value in
    let m = c.no_token-in-None.result.value in
    sound_same c.self.inside.demi.now c.self.inside.caller c.pop_at.new.caller c.self.inside.number c.self.inside.links c.self.inside.drawn l m c.self.invariant c.pop_at.ensures.of c.in-None.ensures.none.1 (ap (λ (s : Side _ _). s.submitted) c.pop_at.ensures.others.0)
    (ap (λ (x : LedgerValue). x.draws) c.no_token-in-None.ensures) (same_dues c.self.inside.links l m (ap (λ (x : LedgerValue). x.dues) c.no_token-in-None.ensures))
