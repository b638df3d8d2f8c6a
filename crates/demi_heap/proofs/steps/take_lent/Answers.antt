use Rattle.std.proofs.Common.{rules}
use Rattle.demi_heap.proofs.Allowed.{takes_lent_allowed}
use Rattle.demi_heap.proofs.steps.take_lent.Goals as goal

pub join_seat-requires : goal.join_seat-requires
join_seat-requires c = let lent = c.requires.lent in (search rules, search rules, search rules, search rules, takes_lent_allowed _ _ _ c.args.seat.now.me.0 c.args.lent.me.0 c.requires.device lent.1 lent.2 lent.3 lent.4)
