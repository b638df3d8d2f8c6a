use Rattle.std.proofs.Common.{ap, sym, ◌∙◌}
use Rattle.demi_pdpix.specs.Seen.{CallerValue, DemiId}
use Rattle.demi_pdpix.proofs.Tried.{tried_memory}
use Rattle.demi_pdpix.proofs.demi.Demi.try_memory.Goals as goal

pub returns-clause-tried : goal.returns-clause-tried
returns-clause-tried g c = tried_memory g.X.Law.admits c.args.self.now.heap c.args.token.0 _ c.args.caller.now c.of_memory.result c.caller.view_is c.try_port.new.pass c.try_port.result c.of_memory.ensures
    (ap (λ (z : CallerValue _ _ _). z.memory.port.key.base) c.caller.view_is ∙ ap (λ x. x.key.base) c.requires.memory ∙ sym (ap (λ (z : DemiId _). z.memory.key.base) c.self.view_is) ∙ c.self.invariant.0.memory_base ∙ ap (λ (z : DemiId _). z.heap) c.self.view_is)
    c.try_port.ensures.tried
