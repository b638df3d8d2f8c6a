use Rattle.std.proofs.Common.{sym, ap, subst, ◌∙◌, arith}
use Rattle.demi_port.specs.Seen.{DeviceValue}
use Rattle.demi_device.specs.Turning.{IsFresh}
use Rattle.demi_device.proofs.Serve.{serves_none}
use Rattle.demi_device.proofs.device.Device.make.Goals as goal

pub invariant_of-result : goal.invariant_of-result
invariant_of-result g c = let m = c.in-Ok-make.ensures.made in let r = c.requires in let slots = ap (λ z. z.port.tokens.slots) m.0 in (
  c.in-Ok.ensures.empty,
  c.in-Ok.ensures.room ∙ r.tokens ∙ sym slots,
  serves_none _ _ _ _ _ _ _ _ _ _ (r.base ∙ sym (ap (λ z. z.port.key.base) m.0)) (let a = r.tokens in let b = r.room in omega arith) m.1 r.unserved.0 r.unserved.1
      (subst (λ (z : DeviceValue g.row.E-L-Said.Denot g.row.E-L-Told.Denot g.row.E-L-Base.Denot). IsFresh z) (sym m.0) r.fresh),
)
