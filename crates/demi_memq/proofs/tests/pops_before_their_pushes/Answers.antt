use Rattle.std.proofs.Common.{length, ap, arith}
use Rattle.demi_memq.proofs.Passes.{first_new, one_even}
use Rattle.demi_memq.proofs.tests.pops_before_their_pushes.Goals as goal

pub end-mine-requires-clause-even : goal.end-mine-requires-clause-even
end-mine-requires-clause-even g c = let passes = c.port_on-port.ensures.passes in let ps = c.port_on-port.result.1.items in
    let none = first_new _ ps c.index_mut-pass.result.now passes.0 passes.1 c.index_mut-pass.ensures.value in let none₀ = none.0 in let none₁ = none.1 in
    let three = c.ask_three.ensures.three in let three₀ = three.0 in let three₁ = ap length three.1 in
    let x = c.push-push_x.ensures.one in let x₀ = x.0 in let x₁ = ap length x.1 in let y = c.push-push_y.ensures.one in let y₀ = y.0 in let y₁ = ap length y.1 in
    let last = c.ask_three-2.ensures.three in let last₀ = last.0 in let last₁ = ap length last.1 in
    let pops = c.answer_four-pops.ensures.four in let pops₀ = ap length pops.0 in let pops₁ = pops.1 in
    let others = c.answer_four-others.ensures.four in let others₀ = ap length others.0 in let others₁ = others.1 in
    one_even ps c.answer_four-others.new.pass passes.0 (omega arith)
