use Rattle.std.proofs.Common.{[], ◌∷◌, length, length-append, ap, ◌∙◌, arith}
use Rattle.demi_pdpix.specs.Seen.{Pair}
use Rattle.demi_pdpix.proofs.MadePairs.{next_pair, next_paired}
use Rattle.demi_pdpix.proofs.pairing.pair_each.Goals as goal

pub loop-seat-preserved : goal.loop-seat-preserved
loop-seat-preserved g c = let v = c.loop-seat.invariant in let s : Pair g.row.L-Said.Denot g.row.L-Told.Denot g.row.L-Base.Denot = (c.in-Some.seat, c.next_pass-pass.result) in
    let a = ap length c.in-Some.ensures.items in let b = length-append c.pop.new.self.items (c.in-Some.seat ∷ []) in
    let e = ap length c.push_reserved.ensures.items in let f = length-append c.loop-seat.pairs.items (s ∷ []) in let left = v.left in let many = v.many in let rest = c.next_pass-pass.ensures.rest in let took = rest.0 in record {
      all = next_pair c.args.alone.items c.loop-seat.alone.items c.pop.new.self.items c.loop-seat.pairs.items c.push_reserved.new.self.items s v.all c.in-Some.ensures.items c.push_reserved.ensures.items;
      left = omega (arith, a, b, left, took);
      many = omega (arith, a, b, e, f, many);
      new = rest.1;
      paired = next_paired c.args.heap.now c.loop-seat.pairs.items c.push_reserved.new.self.items s v.paired c.next_pass-pass.ensures.pass c.push_reserved.ensures.items;
      room = rest.2 ∙ v.room;
      pair_room = c.push_reserved.ensures.capacity ∙ v.pair_room;
    }
