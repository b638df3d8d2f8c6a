use Rattle.std.proofs.Common.{arith}
use Rattle.std.specs.Slots.{slots_items}
use Rattle.demi_heap_core.specs.Owner.{app_bit, device_bit}
use Rattle.demi_heap_core.proofs.Sums.{total-take}
use Rattle.demi_heap.specs.Laid.{is}
use Rattle.demi_heap.proofs.close.count.Goals as goal

pub loop-i-preserved : goal.loop-i-preserved
loop-i-preserved c = let before = c.loop-i.invariant in let step = c.tally-end.ensures in let items = slots_items c.args.closed.now.words in
    let a = total-take app_bit items c.loop-i.i c.word.result c.word.ensures in let d = total-take device_bit items c.loop-i.i c.word.result c.word.ensures in
    let t₀ = total-take (is 0) items c.loop-i.i c.word.result c.word.ensures in let t₁ = total-take (is 1) items c.loop-i.i c.word.result c.word.ensures in
    let t₃ = total-take (is 3) items c.loop-i.i c.word.result c.word.ensures in let t₂ = total-take (is 2) items c.loop-i.i c.word.result c.word.ensures in
    let b₀ = before.0 in let b₁ = before.1 in let b₂ = before.2 in let b₃ = before.3 in let b₄ = before.4 in let b₅ = before.5 in let b₆ = before.6 in
    let s₀ = step.one.0 in let s₁ = step.one.1 in let s₂ = step.one.2 in let s₃ = step.one.3 in let x₀ = step.bits.0 in let x₁ = step.bits.1 in let x₂ = step.bits.2 in
    (omega arith, omega arith, omega arith, omega arith, omega arith, omega arith, omega arith)
