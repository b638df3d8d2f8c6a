use Rattle.std.proofs.Common.{◌≡◌, ◌⊎◌, [], ap, sym, ◌∙◌, subst}
use Rattle.demi_device.specs.Serving.{HasStop}
use Rattle.demi_memq.specs.Said.{is_stop}
use Rattle.demi_memq.specs.Serving.{items_said}
use Rattle.demi_memq.proofs.Keeping.{none_waits, none_asks}
use Rattle.demi_memq.proofs.Saying.{unsaid_none}
use Rattle.demi_memq.proofs.engine.MemEngine.parts.Goals as goal

pub end-requires : goal.end-requires
end-requires c =
    let s = c.self.inside.queues in
    let over = subst (λ l. HasStop is_stop l ⊎ (l ≡ [])) (sym (ap (λ v. v.served) c.self.view_is)) c.requires in
    unsaid_none s.waiting.items (none_waits 1024 c.self.inside.history.value c.self.inside.outcomes.value s.made s.shut.items _ (items_said s.waiting.items) s.pending.items c.self.invariant.0 over)

pub end-requires-2 : goal.end-requires-2
end-requires-2 c =
    let s = c.self.inside.queues in
    let over = subst (λ l. HasStop is_stop l ⊎ (l ≡ [])) (sym (ap (λ v. v.served) c.self.view_is)) c.requires in
    none_asks 1024 c.self.inside.history.value c.self.inside.outcomes.value s.made s.shut.items _ (items_said s.waiting.items) s.pending.items c.self.invariant.0 over

pub returns-clause-none_wait : goal.returns-clause-none_wait
returns-clause-none_wait c =
    let s = c.self.inside.queues in
    let over = subst (λ l. HasStop is_stop l ⊎ (l ≡ [])) (sym (ap (λ v. v.served) c.self.view_is)) c.requires in
    let none = unsaid_none s.waiting.items (none_waits 1024 c.self.inside.history.value c.self.inside.outcomes.value s.made s.shut.items _ (items_said s.waiting.items) s.pending.items c.self.invariant.0 over) in
    sym (ap (λ v. v.waits) c.self.view_is) ∙ none
