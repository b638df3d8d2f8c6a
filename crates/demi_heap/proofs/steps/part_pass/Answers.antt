use Rattle.std.proofs.Common.{rules}
use Rattle.demi_heap.proofs.Allowed.{parts_allowed}
use Rattle.demi_heap.proofs.steps.part_pass.Goals as goal

pub split_seat-requires : goal.split_seat-requires
split_seat-requires c = (search rules, search rules, parts_allowed _ _ _)
