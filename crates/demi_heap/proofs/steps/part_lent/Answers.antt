use Rattle.std.proofs.Common.{rules}
use Rattle.demi_heap.proofs.Allowed.{parts_lent_allowed}
use Rattle.demi_heap.proofs.steps.part_lent.Goals as goal

pub split_seat-requires : goal.split_seat-requires
split_seat-requires c = (search rules, search rules, parts_lent_allowed _ _ _ c.requires.2)
