use Rattle.std.proofs.Common.{length, ap, arith}
use Rattle.demi_memq.proofs.Passes.{first_new, one_even}
use Rattle.demi_memq.proofs.tests.a_full_queue_takes_a_push_again_after_a_pop.Goals as goal

pub end-mine-requires-clause-even : goal.end-mine-requires-clause-even
end-mine-requires-clause-even g c = let passes = c.port_on-port.ensures.passes in let ps = c.port_on-port.result.1.items in
    let none = first_new _ ps c.index_mut-pass.result.now passes.0 passes.1 c.index_mut-pass.ensures.value in let none₀ = none.0 in let none₁ = none.1 in
    let ask = c.ask-queue.ensures.one in let ask₀ = ask.0 in let ask₁ = ap length ask.1 in let first = c.answer-opened.ensures.one in let first₀ = ap length first.0 in let first₁ = first.1 in let many = c.push_many-taken.ensures.even in
    let beyond = c.push-beyond.ensures.one in let beyond₀ = beyond.0 in let beyond₁ = ap length beyond.1 in let pop = c.ask-pop.ensures.one in let pop₀ = pop.0 in let pop₁ = ap length pop.1 in
    let again = c.push-again.ensures.one in let again₀ = again.0 in let again₁ = ap length again.1 in let stop = c.ask-stop.ensures.one in let stop₀ = stop.0 in let stop₁ = ap length stop.1 in
    let four = c.answer_four-outs.ensures.four in let four₀ = ap length four.0 in let four₁ = four.1 in
    one_even ps c.answer_four-outs.new.pass passes.0 (omega arith)
