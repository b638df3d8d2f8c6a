use Rattle.std.proofs.Common.{rules, ap, sym, ◌∙◌, ◌∷◌, Some}
use Rattle.atomic_table.specs.Table.{rest}
use Rattle.demi_heap.proofs.Allowed.{reclaims_allowed}
use Rattle.demi_heap.proofs.steps.look.Goals as goal

pub load-requires : goal.load-requires
load-requires c = (search rules, search rules, reclaims_allowed _ _ _ _ _ c.requires.half.1 c.requires.half.2)

pub exchange-requires : goal.exchange-requires
exchange-requires c = let won = c.load.ensures.2.0 (search rules) in (
  search rules,
  (Some won.0, won.2 ∙ (λ i. (c.args.slot, Some won.0) ∷ sym (ap rest won.2) i)),
)
