use Rattle.std.proofs.Common.{ℕ, sym, ap, subst, ◌∙◌}
use Rattle.demi_device.specs.Turning.{NoBell}
use Rattle.demi_device.proofs.Serve.{serves_took}
use Rattle.demi_device.proofs.device.Device.take_in.Goals as goal

pub invariant_of-self : goal.invariant_of-self
invariant_of-self g c = let t = c.take_in.ensures in let slots = sym (ap (λ z. z.seat.port.tokens.slots) c.self.view_is ∙ ap (λ z. z.tokens.slots) c.requires.port) in (
  c.self.invariant.0,
  c.self.invariant.1 ∙ sym (ap (λ z. z.port.tokens.slots) t.took.4),
  serves_took _ _ _ _ _ _ _ _ _ _ c.self.invariant.2 c.take_in.new.self.given c.take_in.new.self.seat t.given t.took (subst (λ (n : ℕ). NoBell n c.take_in.new.self.seat.rang) slots t.cleared),
)
