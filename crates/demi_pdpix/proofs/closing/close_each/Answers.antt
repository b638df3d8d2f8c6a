use Rattle.std.proofs.Common.{[], ◌∷◌, ◌++◌, length, length-append, map, refl, reverse, ap, sym, subst, ◌∙◌, append_assoc, append-nil, arith}
use Rattle.std.proofs.lemmas.List.{length-reverse, reverse-reverse}
use Rattle.demi_pdpix.specs.Closing.{AllEnds, beside}
use Rattle.demi_pdpix.proofs.Ended.{ended_lens, map_len, one_end, ready_next}
use Rattle.demi_pdpix.proofs.Returned.{all_gone, fewer, map_snoc, next_gone}
use Rattle.demi_pdpix.proofs.closing.close_each.Goals as goal

pub loop-lane-init : goal.loop-lane-init
loop-lane-init g c = (
  [],
  [],
  record {
    lanes = sym (ap reverse c.reverse.ensures.items ∙ reverse-reverse c.args.lanes.items);
    seats = sym (ap reverse c.reverse-2.ensures.items ∙ reverse-reverse c.args.seats.items);
    left = ap length c.reverse-2.ensures.items ∙ length-reverse c.args.seats.items ∙ c.requires.len ∙ sym (ap length c.reverse.ensures.items ∙ length-reverse c.args.lanes.items);
    passes = sym (append-nil c.args.passes.now.items);
    room = refl;
    end_room = refl;
    ends = subst (AllEnds [] []) (sym c.requires.room.1) tt;
  },
)

pub close_one-requires-clause-room : goal.close_one-requires-clause-room
close_one-requires-clause-room g c κs within = let v = c.loop-lane.invariant.2 in let gone = c.loop-lane.invariant.0 in let done = c.loop-lane.invariant.1 in
    let low = fewer c.args.lanes.items gone c.loop-lane.lanes.items c.pop.new.self.items c.in-Some.lane v.lanes c.in-Some.ensures.items in
    let n = ended_lens gone done c.loop-lane.ends.items v.ends in let n1 = n.1 in
    let e = ap length v.passes in let f = length-append c.args.passes.now.items (map beside done) in let m = map_len beside done in
    let r = c.requires.room.0 in let room = v.room in
    omega (arith, low, n1, e, f, m, r, room)

pub close_one-requires-clause-ready : goal.close_one-requires-clause-ready
close_one-requires-clause-ready g c κs within = let v = c.loop-lane.invariant.2 in
    ready_next c.args.lanes.items c.args.seats.items c.loop-lane.ends.items c.loop-lane.invariant.0 c.loop-lane.lanes.items c.pop.new.self.items c.loop-lane.invariant.1 c.loop-lane.seats.items c.pop-in-Some.new.self.items c.in-Some.lane c.in-Some-pop.pair
    c.requires.ready v.lanes c.in-Some.ensures.items v.seats c.in-Some-pop.ensures.items v.ends

pub push_reserved-requires : goal.push_reserved-requires
push_reserved-requires g c = let v = c.loop-lane.invariant.2 in let gone = c.loop-lane.invariant.0 in let done = c.loop-lane.invariant.1 in
    let low = fewer c.args.lanes.items gone c.loop-lane.lanes.items c.pop.new.self.items c.in-Some.lane v.lanes c.in-Some.ensures.items in
    let n = ended_lens gone done c.loop-lane.ends.items v.ends in let n0 = n.0 in
    let ok = c.loop-lane.ends.ok in let r = c.requires.room.2 in let room = v.end_room in
    omega (arith, low, n0, ok, r, room)

pub loop-lane-preserved : goal.loop-lane-preserved
loop-lane-preserved g c = let v = c.loop-lane.invariant.2 in let gone = c.loop-lane.invariant.0 in let done = c.loop-lane.invariant.1 in let s = c.in-Some-pop.pair in let l = c.in-Some.lane in let took = c.close_one.ensures.passes in (
  gone ++ l ∷ [],
  done ++ s ∷ [],
  record {
    lanes = next_gone c.args.lanes.items gone c.loop-lane.lanes.items c.pop.new.self.items l v.lanes c.in-Some.ensures.items;
    seats = next_gone c.args.seats.items done c.loop-lane.seats.items c.pop-in-Some.new.self.items s v.seats c.in-Some-pop.ensures.items;
    left = (let e = ap length c.in-Some.ensures.items in let f = ap length c.in-Some-pop.ensures.items in let a = length-append c.pop.new.self.items (l ∷ []) in let b = length-append c.pop-in-Some.new.self.items (s ∷ []) in let w = v.left in omega (arith, e, f, a, b, w));
    passes = took.0 ∙ ap (λ x. x ++ beside s ∷ []) v.passes ∙ append_assoc c.args.passes.now.items (map beside done) (beside s ∷ []) ∙ ap (λ x. c.args.passes.now.items ++ x) (sym (map_snoc beside done s));
    room = took.1 ∙ v.room;
    end_room = c.push_reserved.ensures.capacity ∙ v.end_room;
    ends = subst (AllEnds (gone ++ l ∷ []) (done ++ s ∷ [])) (sym c.push_reserved.ensures.items) (one_end gone done c.loop-lane.ends.items l s c.close_one.result v.ends c.close_one.ensures.end);
  },
)

pub returns-clause-passes : goal.returns-clause-passes
returns-clause-passes g c = let v = c.loop-lane.invariant.2 in let done = c.loop-lane.invariant.1 in
    let e = c.in_default.ensures.cases.0 in let ok = c.loop-lane.lanes.ok in let left = v.left in
    (v.passes ∙ ap (λ x. c.args.passes.now.items ++ map beside x) (sym (all_gone c.args.seats.items done c.loop-lane.seats.items v.seats (omega (arith, e, ok, left)))), v.room)

pub returns-clause-ends : goal.returns-clause-ends
returns-clause-ends g c = let v = c.loop-lane.invariant.2 in let gone = c.loop-lane.invariant.0 in let done = c.loop-lane.invariant.1 in
    let e = c.in_default.ensures.cases.0 in let ok = c.loop-lane.lanes.ok in let left = v.left in
    subst (λ ls. AllEnds ls c.args.seats.items c.loop-lane.ends.items) (sym (all_gone c.args.lanes.items gone c.loop-lane.lanes.items v.lanes (omega (arith, e, ok))))
    (subst (λ ss. AllEnds gone ss c.loop-lane.ends.items) (sym (all_gone c.args.seats.items done c.loop-lane.seats.items v.seats (omega (arith, e, ok, left)))) v.ends)
