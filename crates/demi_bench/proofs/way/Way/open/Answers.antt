use Rattle.std.proofs.Common.{rules, length, ap, sym, ◌∙◌}
use Rattle.demi_bench.proofs.Numbers.{only_new}
use Rattle.demi_bench.proofs.way.Way.open.Goals as goal

pub invariant_of-result : goal.invariant_of-result
invariant_of-result c = let m = c.in-Ok.ensures in let d = c.in-Ok-make.ensures.made in
    let only = only_new c.in-Ok.port c.pop.new.self.items c.in-Ok.passes.items c.in-Some.pass m.passes.0 m.passes.1 c.in-Some.ensures.items in
    let seat = d.1 ∙ m.seat in (
      ((ap (λ v. v.port) only.0, ap (λ v. length v.submitted) only.0 ∙ sym (ap (λ v. length v.redeemed) only.0)), ap (λ v. v.number) only.0),
      ap (λ s. s.port) seat,
      ap (λ s. s.passes) seat,
      ap (λ s. length s.fetched) seat ∙ sym (ap (λ e. length e.history.value) d.0 ∙ ap length c.new.ensures),
      only.1,
      search rules,
    )
