use Rattle.std.proofs.Common.{ℕ, ◌≡◌, ◌<◌, ◌∙◌, ap, sym, subst}
use Rattle.demi_port_core.specs.Bits.{has_bit}
use Rattle.demi_port_core.proofs.Blocks.{has_first}
use Rattle.demi_port.proofs.port.Port.take.Goals as goal

pub returns-clause-tokens : goal.returns-clause-tokens
returns-clause-tokens g c i set = let n = sym c.self.inside.tables.sized.1 ∙ ap (λ z. z.tokens.slots) c.self.view_is in
    let found = has_first c.take.result i (subst (λ words. has_bit words i ≡ 1) c.first_block.ensures set) in subst (λ (z : ℕ). i < z) n (c.take.ensures.tokens i found.1)
