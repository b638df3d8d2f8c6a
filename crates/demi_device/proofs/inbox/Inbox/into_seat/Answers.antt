use Rattle.std.proofs.Common.{length, ap, arith}
use Rattle.demi_device.proofs.Ring.{none_early}
use Rattle.demi_device.proofs.inbox.Inbox.into_seat.Goals as goal

pub free_ring-requires : goal.free_ring-requires
free_ring-requires g c = let h = c.self.invariant.2 in none_early _ _ _ _ _ _ _ _ _ _ h (let held = h.held in let all = ap (λ z. length z.seat.fetched) c.self.view_is in let given = ap (λ z. z.given) c.self.view_is in let r = c.requires in omega arith)
