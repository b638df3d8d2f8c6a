use Rattle.std.proofs.Common.{ap, refl}
use Rattle.demi_link.specs.Sights.{Side}
use Rattle.demi_context.proofs.ContextSteps.{same_dues, sound_same}
use Rattle.demi_context.proofs.context.scanning.ContextScanner.scan.Goals as goal

pub invariant_of-self : goal.invariant_of-self
invariant_of-self c =
    let l = c.self.inside.ledger.value in
    sound_same c.self.inside.demi.now c.self.inside.caller c.scan_at-bits.new.caller c.self.inside.number c.self.inside.links c.self.inside.drawn l l c.self.invariant c.scan_at-bits.ensures.of c.scan_at-bits.ensures.owes (ap (λ (s : Side _ _). s.submitted) c.scan_at-bits.ensures.sides.0) refl (same_dues c.self.inside.links l l refl)
