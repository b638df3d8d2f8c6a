use Rattle.std.proofs.Common.{[], ◌∷◌, length, refl, ap, ◌∙◌, arith, length-append}
use Rattle.demi_port.proofs.Devices.{starts_more}
use Rattle.demi_device.proofs.Growing.{grows_on}
use Rattle.demi_device.proofs.Gapless.{served_ground}
use Rattle.demi_device.proofs.device.Device.serve_held.Goals as goal

pub loop-preserved : goal.loop-preserved
loop-preserved g c = let E = g.E.Engine in let i = c.loop.invariant in let s = c.loop-test.ensures in let new = c.serve_next.new.self in let one = (s.some refl).1 in record {
  goes = g.met.E.Engine.goes_on _ _ _ i.goes s.goes;
  engine = (s.engine.0 ∙ i.engine.0, s.engine.1 ∙ i.engine.1);
  seat = s.seat ∙ (λ q. record (i.seat q) { finished = new.seat.finished; trail = new.seat.trail; owes = new.seat.owes });
  grows = grows_on _ _ _ _ _ _ i.grows s.grows;
  served = starts_more _ _ _ (one.0 ∷ [], one.1) i.served;
  none = λ e. let a = ap length one.1 in let b = length-append (E.served c.loop.self.engine) (one.0 ∷ []) in let d = ap length i.served.1 in let f = length-append (E.served c.args.self.now.engine) i.served.0 in absurd (omega arith);
}

pub returns-clause-served : goal.returns-clause-served
returns-clause-served g c = let E = g.E.Engine in let i = c.loop.invariant in let same = (c.loop-test.ensures.none refl).0 in let before = c.waiting-before.ensures in let after = c.waiting.ensures in
    let served = ap (λ z. E.served z.engine) same ∙ i.served.1 in let n = ap length served in let m = length-append (E.served c.args.self.now.engine) i.served.0 in
    let fetched = ap (λ z. length z.seat.fetched) same ∙ ap (λ z. length z.fetched) i.seat in (i.served.0, served, omega arith)

pub returns-clause-none : goal.returns-clause-none
returns-clause-none g c nothing = let E = g.E.Engine in let i = c.loop.invariant in let same = (c.loop-test.ensures.none refl).0 in let before = c.waiting-before.ensures in let after = c.waiting.ensures in
    let fetched = ap (λ z. length z.seat.fetched) same ∙ ap (λ z. length z.fetched) i.seat in let served = ap (λ z. length (E.served z.engine)) same in
    let n = ap length i.served.1 in let m = length-append (E.served c.args.self.now.engine) i.served.0 in
    same ∙ i.none (omega arith)

pub returns-clause-all_served : goal.returns-clause-all_served
returns-clause-all_served g c = let s = c.loop-test.ensures in let none = (s.none refl).1 in (served_ground c.serve_next.new.self.seat.fetched (g.E.Engine.served c.serve_next.new.self.engine) s.serves.begins none, none)
