use Rattle.std.proofs.Common.{◌≡◌, ℕ, ◌+◌, ◌-◌, ◌≤◌, ap, arith, inl, inr, refl, subst, sym, ◌∙◌}
use Rattle.demi_pdpix.specs.declared.kind.PortKind.TheVariants.{Service}
use Rattle.demi_link.specs.Events.{TriedBy, settled}
use Rattle.demi_link.specs.Sights.{side_of}
use Rattle.demi_store.specs.Laws.{Admits}
use Rattle.demi_context.specs.ContextLedgers.{Entry, LedgerValue, Trying, after_store_try, due_of}
use Rattle.demi_context.specs.ContextSights.{ContextValue}
use Rattle.demi_context.proofs.ContextAsks.{tried_submits}
use Rattle.demi_context.proofs.ContextSteps.{none_fewer, settled_few, sound_less, store_fewer}
use Rattle.demi_context.proofs.context.calls.ContextCalls.try_store.Goals as goal

pub invariant_of-self : goal.invariant_of-self
invariant_of-self c =
    let l = c.self.inside.ledger.value in
    let link = c.args.link in
    let came = c.store_at-came.result in
    let m = c.store_tried.result.value in
    let is : m ≡ after_store_try (record { ledger = l; link = link }) c.args.token came =
    c.store_tried.ensures ∙ ap (λ (t : Trying). after_store_try t.entry t.token came) (c.trying-trying.ensures ∙ ap (λ (e : Entry). record { entry = e; token = c.args.token }) c.of_link.ensures) in
    let due : 1 ≤ (due_of l link).store = subst (λ (a : ContextValue). 1 ≤ (due_of a.ledger link).store) (sym c.self.view_is) c.requires.due in
    let few : settled came ≤ 1 = settled_few came in
    let back : (due_of l link).store - settled came + settled came ≡ (due_of l link).store = omega (arith, due, few) in
    let unasked = tried_submits (λ o h t p. Admits c.self.inside.demi.now.service.key.base h t p o) c.args.token.token.0 (side_of c.self.inside.caller.service) (side_of c.store_at-came.new.caller.service) came c.store_at-came.ensures.tried in
    elim c.store_at-came.ensures.there [
      | inl low ↦ sound_less c.self.inside.demi.now c.self.inside.caller c.store_at-came.new.caller c.self.inside.number c.self.inside.links c.self.inside.drawn l m c.self.invariant c.store_at-came.ensures.of Service (settled came) c.store_at-came.ensures.owes unasked
          (ap (λ (x : LedgerValue). x.draws) is) (store_fewer c.self.inside.links link l m _ (ap (λ (x : LedgerValue). x.dues) is) (settled came) low refl refl back)
      | inr none ↦ (
          let same : (due_of l link).store - settled came ≡ (due_of l link).store = omega (arith, none) in
          sound_less c.self.inside.demi.now c.self.inside.caller c.store_at-came.new.caller c.self.inside.number c.self.inside.links c.self.inside.drawn l m c.self.invariant c.store_at-came.ensures.of Service (settled came) c.store_at-came.ensures.owes unasked
          (ap (λ (x : LedgerValue). x.draws) is) (none_fewer c.self.inside.links link l m _ (ap (λ (x : LedgerValue). x.dues) is) Service (settled came) none (ap (λ (n : ℕ). record (due_of l link) { store = n }) same)))
    ]

pub returns-clause-tried : goal.returns-clause-tried
returns-clause-tried c =
    subst (λ (v : ContextValue). TriedBy (λ o h t p. Admits v.demi.service.key.base h t p o) c.args.token.token.0 (side_of v.caller.service) (side_of c.store_at-came.new.caller.service) c.store_at-came.result) c.self.view_is c.store_at-came.ensures.tried
