use Rattle.std.proofs.Common.{rules, ap, ◌∙◌, replicate}
use Rattle.demi_heap.proofs.Opening.{opens}
use Rattle.demi_heap.proofs.make.lay.Goals as goal

pub new-requires : goal.new-requires
new-requires c =
    opens c.args.key _ c.args.row.items (c.as_slice.ensures.value ∙ (c.in-Ok.ensures.items_if_clones_equal (λ y e. e) ∙ ap (λ n. replicate n 0) (c.len.ensures ∙ search rules))) c.requires.size.0 c.requires.laid.0 c.requires.laid.1
