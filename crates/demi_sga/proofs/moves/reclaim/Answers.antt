use Rattle.std.proofs.Common.{◌≡◌, List, [], ◌∷◌, ◌++◌, length, sym, refl, ap, ◌∙◌, subst, arith, length-append}
use Rattle.demi_heap.specs.Seen.{HalfValue}
use Rattle.demi_sga.specs.Arrays.{LentValue, byte_count, HeldAt}
use Rattle.demi_sga.specs.Rows.{items}
use Rattle.demi_sga.proofs.Lists.{back_length, back_bytes, back_held, back_all, held_of}
use Rattle.demi_sga.proofs.moves.reclaim.Goals as goal

pub invariant_of-result : goal.invariant_of-result
invariant_of-result c = let back = items c.half.inside.back in let rest = items c.half.inside.rest in let more = items c.reclaim_row-more.result.0 in let left = items c.reclaim_row-more.result.1 in
    let e = c.reclaim_row-more.ensures in let n = back_length back more left rest e.back e.rest in let b = back_bytes back more left rest e.back e.rest in let both = c.append-back.ensures in
    let long = ap length both in let apart = length-append back more in let inv = c.half.invariant in let i₀ = inv.0 in let i₁ = inv.1 in let i₂ = inv.2 in (
      omega arith,
      omega arith,
      i₂ ∙ (sym b ∙ ap (λ (l : List HalfValue). byte_count (l ++ left)) (sym both)),
    )

pub returns-then-len-eq0-clause-ok : goal.returns-then-len-eq0-clause-ok
returns-then-len-eq0-clause-ok c = let back = items c.half.inside.back in let rest = items c.half.inside.rest in let more = items c.reclaim_row-more.result.0 in let left = items c.reclaim_row-more.result.1 in
    let e = c.reclaim_row-more.ensures in c.of_row.ensures ∙ (c.append-back.ensures ∙ (back_all back more left rest e.back e.rest (empty left (sym c.len.ensures ∙ c.if-len-eq0.true)) ∙ ap (λ (v : LentValue). v.segments) c.half.view_is))
  where
    empty : (xs : List HalfValue) → length xs ≡ 0 → xs ≡ []
    empty [] h = refl
    empty (x ∷ xs) h = absurd (omega arith)

pub returns-else-len-eq0-clause-err : goal.returns-else-len-eq0-clause-err
returns-else-len-eq0-clause-err c = let back = items c.half.inside.back in let rest = items c.half.inside.rest in let more = items c.reclaim_row-more.result.0 in let left = items c.reclaim_row-more.result.1 in
    let e = c.reclaim_row-more.ensures in let n = back_length back more left rest e.back e.rest in let both = c.append-back.ensures in let long = ap length both in let apart = length-append back more in let whole = length-append back rest in
    let some_left = c.if-len-eq0.false in let l = c.len.ensures in
    let segments : back ++ rest ≡ c.args.half.segments = ap (λ (v : LentValue). v.segments) c.half.view_is in let number : length back ≡ c.args.half.back = ap (λ (v : LentValue). v.back) c.half.view_is in
    let size = ap length segments in (
      omega arith,
      omega arith,
      subst (λ (ys : List HalfValue). HeldAt (length (items c.append-back.result)) ys (items c.append-back.result ++ left)) segments
          (subst (λ (xs : List HalfValue). HeldAt (length xs) (back ++ rest) (xs ++ left)) (sym both) (back_held back more left rest e.back e.rest (omega arith))),
    )

pub returns-else-len-eq0-clause-heap : goal.returns-else-len-eq0-clause-heap
returns-else-len-eq0-clause-heap c = let h = c.args.heap.now in let held = (returns-else-len-eq0-clause-err c).2 in held_of h _ c.args.half.segments _ held c.requires.1
