use Rattle.std.proofs.Common.{ap, sym, ◌∙◌, arith}
use Rattle.demi_memq.specs.Counting.{beside}
use Rattle.demi_memq.proofs.Chaining.{none_beyond}
use Rattle.demi_memq.proofs.chains.Chains.queues.Goals as goal

pub returns-clause-others : goal.returns-clause-others
returns-clause-others g c = λ q le.
    let view = ap (λ v. v.queues) c.self.view_is in
    ap (λ v. beside q v.items) (sym c.self.view_is) ∙ none_beyond q c.self.inside.order.value c.self.inside.chains.items c.self.invariant.0 (omega arith)
