use Rattle.std.proofs.Common.{rules, ap, refl}
use Rattle.demi_heap.specs.Told.{Seated}
use Rattle.demi_heap.proofs.Looking.{looks_on}
use Rattle.demi_heap.proofs.steps.win_one.Goals as goal

pub loop-slot-preserved : goal.loop-slot-preserved
loop-slot-preserved c = let missed = c.if-win.ensures.lost refl in let inv = c.loop-slot.invariant in let before = ap (λ (m : Seated). m.0) inv.2 in
    let v = c.args.seat.now.me.0 in let l = c.loop-slot.seat.me.0 in let all = looks_on v l c.win.new.seat.me.0 c.args.first c.loop-slot.slot missed.0 before inv.3 inv.4 inv.5 missed.1 missed.2 in (
      search rules,
      search rules,
      (λ i. (all.0 i, missed.3 i)),
      all.1,
      search rules,
      all.2,
    )
