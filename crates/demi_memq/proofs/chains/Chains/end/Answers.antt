use Rattle.std.proofs.Common.{ap, ◌∙◌}
use Rattle.demi_memq.proofs.Chaining.{none_held}
use Rattle.demi_memq.proofs.chains.Chains.end.Goals as goal

pub end_lists-requires : goal.end_lists-requires
end_lists-requires g c = none_held c.self.inside.order.value c.self.inside.chains.items c.self.invariant.0 (ap (λ v. v.items) c.self.view_is ∙ c.requires)
