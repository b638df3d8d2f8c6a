use Rattle.std.proofs.Common.{ℕ, List, ◌++◌, length, drop, sym, ap, ◌∙◌, subst, arith, length-drop}
use Rattle.demi_heap.specs.Seen.{HalfValue, PassValue}
use Rattle.demi_sga.specs.Arrays.{AreOf, SameSlots, LentValue}
use Rattle.demi_sga.specs.Rows.{items}
use Rattle.demi_sga.proofs.Lists.{of_append, of_parts, same_rest}
use Rattle.demi_sga.proofs.moves.rejoin.Goals as goal

pub release_row-requires : goal.release_row-requires
release_row-requires c = let h = c.args.heap.now in let row = items c.dev.inside.row in let k : ℕ = c.len.result in
    let of : AreOf h row = subst (AreOf h) (sym c.dev.view_is) c.requires.heap.2 in
    (c.requires.heap.0, subst (AreOf h) (sym c.split-ended.ensures.0) (of_parts h k row of).0)

pub rejoin_row-joined-requires-clause-heap : goal.rejoin_row-joined-requires-clause-heap
rejoin_row-joined-requires-clause-heap c = let h = c.args.heap.now in let row = items c.dev.inside.row in let k : ℕ = c.len.result in
    let of : AreOf h row = subst (AreOf h) (sym c.dev.view_is) c.requires.heap.2 in
    let halves : AreOf h (items c.half.inside.back ++ items c.half.inside.rest) = subst (AreOf h) (sym (ap (λ (v : LentValue). v.segments) c.half.view_is)) c.requires.heap.1 in
    let few = c.dev.invariant.1 in let n = length-drop {A = HalfValue} k row in let l = ap length c.split-ended.ensures.1 in (
      ap (λ (p : PassValue). p.heap) c.release_row.ensures ∙ c.requires.heap.0,
      (of_append h (items c.half.inside.back) (items c.half.inside.rest) halves).1,
      subst (AreOf h) (sym c.split-ended.ensures.1) (of_parts h k row of).1,
      omega arith,
    )

pub rejoin_row-joined-requires-clause-slots : goal.rejoin_row-joined-requires-clause-slots
rejoin_row-joined-requires-clause-slots c = let back = items c.half.inside.back in let rest = items c.half.inside.rest in let row = items c.dev.inside.row in
    let slots : SameSlots (back ++ rest) row = subst (λ (ys : List HalfValue). SameSlots (back ++ rest) ys) (sym c.dev.view_is) (subst (λ (xs : List HalfValue). SameSlots xs c.args.dev) (sym (ap (λ (v : LentValue). v.segments) c.half.view_is)) c.requires.slots) in
    subst (SameSlots rest) (ap (λ (k : ℕ). drop k row) (sym c.len.ensures) ∙ sym c.split-ended.ensures.1) (same_rest back rest row slots)
