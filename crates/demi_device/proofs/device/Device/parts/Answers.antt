use Rattle.std.proofs.Common.{◌≡◌, ◌∙◌, length, sym, subst}
use Rattle.demi_device.proofs.device.Device.parts.Goals as goal

pub into_seat-requires-after_bounds : goal.into_seat-requires-after_bounds
into_seat-requires-after_bounds g c κs within = subst (λ z. length z.seat.fetched ≡ length (g.E.Engine.served z.engine)) (sym c.self.view_is) c.requires ∙ sym c.self.invariant.2.all_given

pub returns-clause-ends : goal.returns-clause-ends
returns-clause-ends g c = c.self.invariant.2.ends
