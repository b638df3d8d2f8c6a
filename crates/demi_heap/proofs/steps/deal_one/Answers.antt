use Rattle.std.proofs.Common.{rules}
use Rattle.demi_heap.proofs.Allowed.{deals_allowed}
use Rattle.demi_heap.proofs.steps.deal_one.Goals as goal

pub split_seat-requires : goal.split_seat-requires
split_seat-requires c = (search rules, search rules, deals_allowed _ _ _ c.requires.2 c.requires.3)
