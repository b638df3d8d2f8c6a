use Rattle.std.proofs.Common.{◌∷◌, ◌++◌, [], length, length-append, ap, sym, subst, ◌∙◌, arith}
use Rattle.demi_pdpix.specs.Lanes.{AreNewLanes}
use Rattle.demi_pdpix.proofs.Untouched.{one_more, unused}
use Rattle.demi_pdpix.proofs.opening.open_each.Goals as goal

pub end_all-requires-after_bounds : goal.end_all-requires-after_bounds
end_all-requires-after_bounds g c κs within = unused _ _ _ _ _ c.loop.invariant.new

pub loop-preserved : goal.loop-preserved
loop-preserved g c = let v = c.loop.invariant in let n = c.args.fit.now.tokens in let m = c.args.fit.now.callers in let b = g.N.Basis.base in let e = c.in-Ok-make.ensures in record {
  new = subst (λ ss. AreNewLanes b n m c.push_reserved.new.self.items ss) (sym c.push_reserved-in-Ok-make.ensures.items)
      (subst (λ ls. AreNewLanes b n m ls (c.loop.seats.items ++ c.in-Ok-make.seat ∷ [])) (sym c.push_reserved.ensures.items)
      (one_more b n m c.loop.lanes.items c.loop.seats.items c.in-Ok-make.lane c.in-Ok-make.seat v.new (e.port.0, e.port.1, e.port.2, e.home, e.seat)));
  lanes = (let e = ap length c.push_reserved.ensures.items in let f = length-append c.loop.lanes.items (c.in-Ok-make.lane ∷ []) in let l = v.lanes in omega (arith, e, f, l));
  seats = (let e = ap length c.push_reserved-in-Ok-make.ensures.items in let f = length-append c.loop.seats.items (c.in-Ok-make.seat ∷ []) in let l = v.seats in omega (arith, e, f, l));
  lane_room = c.push_reserved.ensures.capacity ∙ v.lane_room;
  seat_room = c.push_reserved-in-Ok-make.ensures.capacity ∙ v.seat_room;
}
