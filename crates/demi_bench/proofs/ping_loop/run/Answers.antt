use Rattle.std.proofs.Common.{◌≡◌, ℕ, ◌<◌, List, length, ap, sym, subst, ◌∙◌, arith}
use Rattle.demi_port.specs.Seen.{PassValue}
use Rattle.demi_port.proofs.Makes.{all_numbers}
use Rattle.demi_port_core.specs.History.{AnyOf, Each, total}
use Rattle.demi_port_core.proofs.Lists.{each_more}
use Rattle.demi_bench.specs.Asking.{IsEven}
use Rattle.demi_bench.proofs.Numbers.{even_total, new_even, same_any, whole_back}
use Rattle.demi_bench.proofs.ping_loop.run.Goals as goal

pub run_both-right-requires-clause-passes : goal.run_both-right-requires-clause-passes
run_both-right-requires-clause-passes g c κs _ = let m = c.in-Ok.ensures.passes in let e = c.deref_mut.ensures.value in let few = c.requires.1 in
    (subst (Each (IsEven c.in-Ok.port)) (sym e) (new_even c.in-Ok.port 0 c.in-Ok.passes.items m.1), let n : length c.deref_mut.result.now ≡ c.args.callers = ap length e ∙ m.0 in omega arith)

pub close-ended-requires-clause-port : goal.close-ended-requires-clause-port
close-ended-requires-clause-port g c κs = let d = c.run_both-right.ensures in (
  ap (λ s. s.port) c.parts-engine.ensures.seat ∙ d.device.0 ∙ ap (λ s. s.port) c.in-Ok-make.ensures.made.1 ∙ ap (λ s. s.port) c.in-Ok.ensures.seat,
  subst (Each (λ (p : PassValue ℕ (Unit {0}) (Unit {0})). p.port ≡ c.in-Ok.port)) (sym (whole_back c.in-Ok.passes.len c.run_both-right.new.passes c.in-Ok.passes.items (sym (d.asked.0 ∙ c.deref_mut.ensures.len))))
      (each_more (IsEven c.in-Ok.port) (λ (p : PassValue ℕ (Unit {0}) (Unit {0})). p.port ≡ c.in-Ok.port) c.run_both-right.new.passes (λ p h. h.0) d.even),
)

pub close-ended-requires-clause-all : goal.close-ended-requires-clause-all
close-ended-requires-clause-all g c κs n small = let d = c.run_both-right.ensures in let m = c.in-Ok.ensures in
    subst (AnyOf (λ (p : PassValue ℕ (Unit {0}) (Unit {0})). p.number ≡ n)) (sym (whole_back c.in-Ok.passes.len c.run_both-right.new.passes c.in-Ok.passes.items (sym (d.asked.0 ∙ c.deref_mut.ensures.len))))
    (same_any n c.args.operations c.deref_mut.result.now c.run_both-right.new.passes d.asked (subst (AnyOf (λ (p : PassValue ℕ (Unit {0}) (Unit {0})). p.number ≡ n)) (sym c.deref_mut.ensures.value)
    (all_numbers c.in-Ok.port c.in-Ok.passes.items m.passes.1 n (subst (λ (z : ℕ). n < z) (ap (λ s. s.passes) c.parts-engine.ensures.seat ∙ d.device.1 ∙ ap (λ s. s.passes) c.in-Ok-make.ensures.made.1 ∙ ap (λ s. s.passes) m.seat ∙ sym m.passes.0) small))))

pub close-ended-requires-clause-even : goal.close-ended-requires-clause-even
close-ended-requires-clause-even g c κs = let d = c.run_both-right.ensures in
    subst (λ (l : List (PassValue ℕ (Unit {0}) (Unit {0}))). total (λ p. length p.submitted) l ≡ total (λ p. length p.redeemed) l) (sym (whole_back c.in-Ok.passes.len c.run_both-right.new.passes c.in-Ok.passes.items (sym (d.asked.0 ∙ c.deref_mut.ensures.len))))
    (even_total c.in-Ok.port c.run_both-right.new.passes d.even)
