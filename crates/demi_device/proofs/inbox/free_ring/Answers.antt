use Rattle.std.proofs.Common.{length, get_or, ap, ◌∙◌}
use Rattle.std.specs.Prelude.{None}
use Rattle.demi_device.proofs.Taking.{last_is}
use Rattle.demi_device.proofs.inbox.free_ring.Goals as goal

pub unreachable-requires : goal.unreachable-requires
unreachable-requires g c = let rest = c.pop.new.self.items in
    c.loop-slot.invariant (length rest) c.in-Some-slot.field-0 (ap (λ l. get_or l (length rest) None) c.in-Some.ensures.items ∙ last_is rest c.in-Some.slot None ∙ c.in-Some-slot.is)
