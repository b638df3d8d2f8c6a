use Rattle.std.proofs.Common.{◌≡◌, ◌+◌, ◌-◌, ◌≤◌, ap, arith, refl, subst, sym, ◌∙◌}
use Rattle.demi_pdpix.specs.declared.kind.PortKind.TheVariants.{Sending}
use Rattle.demi_link.specs.Sights.{Side}
use Rattle.demi_link.specs.Events.{settled}
use Rattle.demi_context.specs.ContextLedgers.{Entry, LedgerValue, Trying, after_tx_try, due_of}
use Rattle.demi_context.specs.ContextSights.{ContextValue}
use Rattle.demi_context.proofs.ContextSteps.{tx_fewer, settled_few, sound_less}
use Rattle.demi_context.proofs.context.calls.ContextCalls.try_tx.Goals as goal

pub invariant_of-self : goal.invariant_of-self
invariant_of-self c =
    let l = c.self.inside.ledger.value in
    let link = c.args.link in
    let came = c.tx_at-came.result in
    let m = c.tx_tried.result.value in
    let is : m ≡ after_tx_try (record { ledger = l; link = link }) c.args.token came =
    c.tx_tried.ensures ∙ ap (λ (t : Trying). after_tx_try t.entry t.token came) (c.trying-trying.ensures ∙ ap (λ (e : Entry). record { entry = e; token = c.args.token }) c.of_link.ensures) in
    let due : 1 ≤ (due_of l link).tx = subst (λ (a : ContextValue). 1 ≤ (due_of a.ledger link).tx) (sym c.self.view_is) c.requires.due in
    let few : settled came ≤ 1 = settled_few came in
    let back : (due_of l link).tx - settled came + settled came ≡ (due_of l link).tx = omega (arith, due, few) in
    sound_less c.self.inside.demi.now c.self.inside.caller c.tx_at-came.new.caller c.self.inside.number c.self.inside.links c.self.inside.drawn l m c.self.invariant c.tx_at-came.ensures.of (Sending c.args.link) (settled came) c.tx_at-came.ensures.owes (ap (λ (s : Side _ _). s.submitted) c.tx_at-came.ensures.others.0)
    (ap (λ (x : LedgerValue). x.draws) is) (tx_fewer c.self.inside.links link l m _ (ap (λ (x : LedgerValue). x.dues) is) (settled came) refl refl back)
