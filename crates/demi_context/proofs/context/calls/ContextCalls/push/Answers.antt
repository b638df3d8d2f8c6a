use Rattle.std.proofs.Common.{◌≡◌, ap, length, refl, ◌∙◌}
use Rattle.demi_pdpix.specs.declared.kind.PortKind.TheVariants.{Sending}
use Rattle.demi_link.specs.Sights.{Side}
use Rattle.demi_context.specs.ContextLedgers.{Entry, LedgerValue, after_push}
use Rattle.demi_context.proofs.ContextAsks.{asks_same}
use Rattle.demi_context.proofs.ContextSteps.{tx_more, same_dues, sound_more, sound_same}
use Rattle.demi_context.proofs.context.calls.ContextCalls.push.Goals as goal

pub invariant_of-self-in-Ok : goal.invariant_of-self-in-Ok
invariant_of-self-in-Ok c =
    let l = c.self.inside.ledger.value in
    let m = c.pushed.result.value in
    let is : m ≡ after_push (record { ledger = l; link = c.args.link }) c.in-Ok.token = c.pushed.ensures ∙ ap (λ (e : Entry). after_push e c.in-Ok.token) c.of_link.ensures in
    sound_more c.self.inside.demi.now c.self.inside.caller c.push_at.new.caller c.self.inside.number c.self.inside.links c.self.inside.drawn l m c.self.invariant c.push_at.ensures.of (Sending c.args.link) c.self.inside.drawn c.in-Ok.ensures.ok.1
    (asks_same c.self.inside.caller c.push_at.new.caller l m (ap (λ (s : Side _ _). s.submitted) c.push_at.ensures.others.0) (ap (λ (x : LedgerValue). x.draws) is) c.self.invariant.asks)
    (ap (λ (x : LedgerValue). length x.draws) is ∙ c.self.invariant.numbers)
    (tx_more c.self.inside.links c.args.link l m _ (ap (λ (x : LedgerValue). x.dues) is) refl refl refl)

pub invariant_of-self-in-Err : goal.invariant_of-self-in-Err
invariant_of-self-in-Err c =
    let l = c.self.inside.ledger.value in
    let m = c.no_token-in-Err.result.value in
    sound_same c.self.inside.demi.now c.self.inside.caller c.push_at.new.caller c.self.inside.number c.self.inside.links c.self.inside.drawn l m c.self.invariant c.push_at.ensures.of c.in-Err.ensures.err.2 (ap (λ (s : Side _ _). s.submitted) c.push_at.ensures.others.0)
    (ap (λ (x : LedgerValue). x.draws) c.no_token-in-Err.ensures) (same_dues c.self.inside.links l m (ap (λ (x : LedgerValue). x.dues) c.no_token-in-Err.ensures))
