use Rattle.std.proofs.Common.{rules, ◌<◌, ℕ, subst}
use Rattle.demi_heap.proofs.Allowed.{claims_allowed}
use Rattle.demi_heap.proofs.steps.win.Goals as goal

pub compare_exchange-requires : goal.compare_exchange-requires
compare_exchange-requires c = (
  search rules,
  search rules,
  claims_allowed _ _ _ _ _ (subst (λ (n : ℕ). c.args.slot < n) c.requires.table.1 c.requires.table.2) c.requires.pass.1 c.requires.pass.2,
)
