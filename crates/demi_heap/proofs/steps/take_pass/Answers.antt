use Rattle.std.proofs.Common.{rules}
use Rattle.demi_heap.proofs.Allowed.{takes_allowed}
use Rattle.demi_heap.proofs.steps.take_pass.Goals as goal

pub join_seat-requires : goal.join_seat-requires
join_seat-requires c = (search rules, search rules, search rules, search rules, takes_allowed _ _ _ c.args.seat.now.me.0 c.args.pass.me.0 c.requires.pass.1 c.requires.half c.requires.pass.2)
