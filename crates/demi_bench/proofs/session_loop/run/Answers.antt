use Rattle.std.proofs.Common.{◌≡◌, ℕ, ◌<◌, ◌≤◌, length, ap, sym, subst, ◌∙◌, arith}
use Rattle.demi_port.specs.Seen.{PassValue}
use Rattle.demi_port.proofs.Makes.{all_numbers}
use Rattle.demi_port_core.specs.History.{Each}
use Rattle.demi_port_core.proofs.Lists.{each_more}
use Rattle.demi_bench.specs.Asking.{IsEven}
use Rattle.demi_bench.proofs.Numbers.{even_total, new_even}
use Rattle.demi_bench.proofs.session_loop.run.Goals as goal

pub run_teams-took-requires-clause-passes : goal.run_teams-took-requires-clause-passes
run_teams-took-requires-clause-passes g c κs within = let m = c.in-Ok-make.ensures.passes in let few = c.requires.1 in let many = m.0 in
    (subst (λ q. Each (IsEven q) c.in-Ok-make.passes.items) (sym c.hear.ensures) (new_even c.in-Ok-make.port 0 c.in-Ok-make.passes.items m.1), omega (arith, few, many))

pub close-ended-requires-clause-port : goal.close-ended-requires-clause-port
close-ended-requires-clause-port g c κs = let d = c.run_teams-took.ensures in (
  ap (λ s. s.port) c.parts-engine.ensures.seat ∙ d.device.0 ∙ ap (λ s. s.port) c.in-Ok-make-2.ensures.made.1 ∙ ap (λ s. s.port) c.in-Ok-make.ensures.seat ∙ sym c.hear.ensures,
  each_more (IsEven c.hear.new.self) (λ (p : PassValue ℕ (Unit {0}) (Unit {0})). p.port ≡ c.hear.new.self) c.run_teams-took.new.passes.items (λ p h. h.0) d.even,
)

pub close-ended-requires-clause-all : goal.close-ended-requires-clause-all
close-ended-requires-clause-all g c κs n small = let d = c.run_teams-took.ensures in let m = c.in-Ok-make.ensures in
    d.all n (all_numbers c.in-Ok-make.port c.in-Ok-make.passes.items m.passes.1 n (subst (λ (z : ℕ). n < z)
    (ap (λ s. s.passes) c.parts-engine.ensures.seat ∙ d.device.1 ∙ ap (λ s. s.passes) c.in-Ok-make-2.ensures.made.1 ∙ ap (λ s. s.passes) m.seat ∙ sym m.passes.0) small))

pub close-ended-requires-clause-even : goal.close-ended-requires-clause-even
close-ended-requires-clause-even g c κs = even_total c.hear.new.self c.run_teams-took.new.passes.items c.run_teams-took.ensures.even
