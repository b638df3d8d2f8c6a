use Rattle.std.proofs.Common.{◌≡◌, ◌+◌, ◌-◌, ◌≤◌, ap, arith, refl, subst, sym, ◌∙◌}
use Rattle.demi_pdpix.specs.declared.kind.PortKind.TheVariants.{Receiving}
use Rattle.demi_link.specs.Sights.{Side}
use Rattle.demi_link.specs.Events.{TriedBy, settled}
use Rattle.demi_context.specs.ContextPorts.{side_at}
use Rattle.demi_streamq.specs.Receiving.{IsFrom, RxAdmits}
use Rattle.demi_context.specs.ContextLedgers.{Entry, LedgerValue, Trying, after_rx_try, due_of}
use Rattle.demi_context.specs.ContextSights.{ContextValue}
use Rattle.demi_context.proofs.ContextSteps.{rx_fewer, settled_few, sound_less}
use Rattle.demi_context.proofs.context.calls.ContextCalls.try_rx.Goals as goal

pub invariant_of-self : goal.invariant_of-self
invariant_of-self c =
    let l = c.self.inside.ledger.value in
    let link = c.args.link in
    let came = c.rx_at-came.result in
    let m = c.rx_tried.result.value in
    let is : m ≡ after_rx_try (record { ledger = l; link = link }) c.args.token came =
    c.rx_tried.ensures ∙ ap (λ (t : Trying). after_rx_try t.entry t.token came) (c.trying-trying.ensures ∙ ap (λ (e : Entry). record { entry = e; token = c.args.token }) c.of_link.ensures) in
    let due : 1 ≤ (due_of l link).rx = subst (λ (a : ContextValue). 1 ≤ (due_of a.ledger link).rx) (sym c.self.view_is) c.requires.due in
    let few : settled came ≤ 1 = settled_few came in
    let back : (due_of l link).rx - settled came + settled came ≡ (due_of l link).rx = omega (arith, due, few) in
    sound_less c.self.inside.demi.now c.self.inside.caller c.rx_at-came.new.caller c.self.inside.number c.self.inside.links c.self.inside.drawn l m c.self.invariant c.rx_at-came.ensures.of (Receiving c.args.link) (settled came) c.rx_at-came.ensures.owes (ap (λ (s : Side _ _). s.submitted) c.rx_at-came.ensures.others.0)
    (ap (λ (x : LedgerValue). x.draws) is) (rx_fewer c.self.inside.links link l m _ (ap (λ (x : LedgerValue). x.dues) is) (settled came) refl refl back)

pub returns-clause-tried : goal.returns-clause-tried
returns-clause-tried c =
    subst (λ (v : ContextValue). TriedBy (λ o h t p. RxAdmits h t p o × IsFrom v.demi.heap o) c.args.token.token.0 (side_at v.caller.rx c.args.link) (side_at c.rx_at-came.new.caller.rx c.args.link) c.rx_at-came.result) c.self.view_is c.rx_at-came.ensures.tried
