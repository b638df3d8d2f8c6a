use Rattle.std.proofs.Common.{◌≡◌, ℕ, length, ◌∙◌, arith}
use Rattle.demi_bench.proofs.Links.{idle_total, over_idle}
use Rattle.demi_bench.proofs.session_work.work.Goals as goal

pub returns-then-are_over-clause-store : goal.returns-then-are_over-clause-store
returns-then-are_over-clause-store g c = let t = idle_total c.walk.new.lines (over_idle c.args.duty.requests c.walk.new.lines (c.are_over.ensures c.if-are_over.true)) in let e = c.walk.ensures.store.1 in
    ((c.walk.ensures.store.0, omega (arith, e, t)), c.walk.ensures.number ∙ c.loop.invariant.number)
