use Rattle.std.proofs.Common.{rules, ap, sym, ◌∙◌, ◌∷◌, Some}
use Rattle.atomic_table.specs.Table.{rest}
use Rattle.demi_heap.proofs.steps.take_out.Goals as goal

pub exchange-requires : goal.exchange-requires
exchange-requires c = let held = c.requires.holds in (search rules, (Some held.0, held.1 ∙ (λ i. (c.args.slot, Some held.0) ∷ sym (ap rest held.1) i)))
