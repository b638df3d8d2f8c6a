use Rattle.std.proofs.Common.{◌≡◌, ℕ, ◌<◌, ◌++◌, ◌∷◌, [], ap, subst, sym, ◌∙◌, arith, inl}
use Rattle.demi_port_core.specs.History.{AnyOf}
use Rattle.demi_store.proofs.tests.served.end.Goals as goal

pub close-requires-clause-all : goal.close-requires-clause-all
close-requires-clause-all g c κs n small =
    let one : n < 1 = subst (λ (m : ℕ). n < m) (ap (λ z. z.passes) c.parts-engine.ensures.seat ∙ c.turn.ensures.port.1 ∙ c.requires.port.1) small in
    let none : 0 ≡ n = omega arith in
    subst (λ l. AnyOf (λ p. p.number ≡ n) l) (sym (c.in-Ok.ensures.items ∙ ap (λ l. l ++ c.args.pass ∷ []) c.new-passes.ensures.items)) (inl (c.requires.port.3 ∙ none))
