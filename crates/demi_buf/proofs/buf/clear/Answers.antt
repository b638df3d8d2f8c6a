use Rattle.std.proofs.Common.{◌≡◌, ℕ, suc, ◌+◌, List, Option, Some, set, ap, ◌∙◌, arith}
use Rattle.demi_buf.specs.Places.{cleared}
use Rattle.demi_buf.proofs.Runs.{cleared_more}
use Rattle.demi_buf.proofs.buf.clear.Goals as goal

pub loop-i-preserved : goal.loop-i-preserved
loop-i-preserved c = let before = c.loop-i.invariant in let more = c.loop-i-test.true in let i : ℕ = c.loop-i.i in let cs = c.args.cells.now.slots in let asked = c.requires in
    let high = asked.2 in let next : suc i ≡ i + 1 = omega arith in
    (c.write.ensures.0 ∙ before.0, omega arith, omega arith, c.write.ensures.1 ∙ (ap (λ (l : List (Option ℕ)). set l i (Some 0)) before.3 ∙ (cleared_more c.args.from i cs (omega arith) (omega arith) ∙ ap (λ (k : ℕ). cleared c.args.from k cs) next)))
