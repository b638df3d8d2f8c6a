use Rattle.std.proofs.Common.{◌≡◌, ℕ, ◌+◌, ◌-◌, List, length, take, drop, sym, ap, ◌∙◌, arith, length-drop}
use Rattle.demi_sga.specs.Arrays.{part_of}
use Rattle.demi_sga.specs.Rows.{items}
use Rattle.demi_sga.proofs.Lists.{part_at, part_past, take_same}
use Rattle.demi_sga.proofs.dev.+part_from.Goals as goal
use Rattle.demi_sga.proofs.dev.+part_from.Goals.{then-left-max, else-left-max}

pub returns-then-from-bytes : goal.returns-then-from-bytes
returns-then-from-bytes t c = let from : ℕ = c.args.from in let max : ℕ = c.args.max in let most : ℕ = c.if-left-max.most in let bytes = c.bytes-bytes.result.now in
    let same : bytes ≡ c.at.result.now.bytes = c.bytes-bytes.ensures in let long = ap length same in let near = c.if-from-bytes.true in let n = length-drop {A = ℕ} from bytes in
    let here = part_at (items c.args.row.now) c.args.i c.at.result.now from max c.at.ensures (omega arith) in
    let there = sym (here ∙ ap (λ (l : List ℕ). take max (drop from l)) (sym same)) in
    elim c.if-left-max.branch [
      | then-left-max w ↦ take_same (drop from bytes) (from + most - from) max (omega arith) (omega arith) ∙ there
      | else-left-max w ↦ ap (λ (k : ℕ). take k (drop from bytes)) (let e : from + most - from ≡ max = omega arith in e) ∙ there
    ]

pub returns : goal.returns
returns t c = let same = ap length c.bytes-bytes.ensures in let far = c.if-from-bytes.false in
    let past = part_past (items c.args.row.now) c.args.i c.at.result.now c.args.from c.args.max c.at.ensures (omega arith) in
    c.part_from.ensures ∙ (ap (λ (k : ℕ). part_of (drop (c.args.i + 1) (items c.args.row.now)) (c.args.from - k) c.args.max) same ∙ sym past)
