use Rattle.std.proofs.Common.{◌-◌, ◌∷◌, ◌++◌, length, take, drop, List, sym, ap, ◌∙◌, arith, length-append}
use Rattle.demi_heap.specs.Seen.{HalfValue}
use Rattle.demi_sga.specs.Rows.{items}
use Rattle.demi_sga.proofs.Lists.{parts, turned_right, turned_left}
use Rattle.demi_sga.proofs.app.turn.Goals.{then-len-i, else-len-i+then-i-len, else-len-i+else-i-len}
use Rattle.demi_sga.proofs.app.turn.Goals as goal

pub append-requires-then-i-len : goal.append-requires-then-i-len
append-requires-then-i-len c = let F : List HalfValue = items c.args.front.now in let is = ap items c.replace-before.ensures.value in let after = ap items c.replace-after.ensures.value in
    let all = ap length (parts c.args.i (items c.replace-before.result)) in let two = length-append (take c.args.i (items c.replace-before.result)) (drop c.args.i (items c.replace-before.result)) in
    let whole = ap length is in let back = ap length after in let popped = ap length (sym c.split-before.ensures.1 ∙ c.pop-next-then-i-len.ensures) in let pushed = ap length c.push-then-i-len.ensures in let few = c.requires.1 in omega arith

pub returns-clause-same : goal.returns-clause-same
returns-clause-same c = let front = ap items c.replace.ensures.after in let back = ap items c.replace-2.ensures.after in
    let F : List HalfValue = items c.replace-before.result in let B : List HalfValue = items c.replace-after.result in let H : HalfValue = c.args.here.now in let before = ap items c.replace-before.ensures.value in let after = ap items c.replace-after.ensures.value in
    (λ k. front k ++ c.if-len-i.here ∷ back k) ∙ (elim c.if-len-i.branch [
      | then-len-i w ↦ let N : HalfValue = w.pop-next.result.0 in let R : List HalfValue = items w.pop-next.result.1 in let h = w.here-is ∙ w.replace-left.ensures.after in let q = w.before-is in
          let left = w.push.ensures ∙ (λ k. w.replace-left.ensures.value k ∷ w.split-between.ensures.0 k) in
          (λ k. items (q k).0 ++ h k ∷ items (q k).1) ∙ ((λ k. w.append.ensures k ++ N ∷ R) ∙ ((λ k. (F ++ left k) ++ N ∷ R) ∙ turned_right F B H N R (c.args.i - w.len-then-len-i.result - 1) (sym w.split-between.ensures.1 ∙ w.pop-next.ensures)))
      | else-len-i+then-i-len w ↦ let N : HalfValue = w.pop-next-then-i-len.result.0 in let R : List HalfValue = items w.pop-next-then-i-len.result.1 in let h = w.here-is ∙ w.replace-left-then-i-len.ensures.after in let q = w.before-is in
          let right = w.append-then-i-len.ensures ∙ (λ k. R ++ (w.push-then-i-len.ensures ∙ (λ j. w.replace-left-then-i-len.ensures.value j ∷ B)) k) in
          (λ k. items (q k).0 ++ h k ∷ items (q k).1) ∙ ((λ k. w.split-before.ensures.0 k ++ N ∷ right k) ∙ turned_left F B H N R c.args.i (sym w.split-before.ensures.1 ∙ w.pop-next-then-i-len.ensures))
      | else-len-i+else-i-len w ↦ (λ k. items (w.before-is k).0 ++ w.here-is k ∷ items (w.before-is k).1)
    ] ∙ (λ k. before k ++ H ∷ after k))
