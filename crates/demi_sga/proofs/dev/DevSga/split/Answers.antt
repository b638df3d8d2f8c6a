use Rattle.std.proofs.Common.{rules, ◌≡◌, take, drop, sym, subst}
use Rattle.demi_sga.specs.Arrays.{AreOf}
use Rattle.demi_sga.specs.Rows.{items}
use Rattle.demi_sga.proofs.Lists.{of_parts}
use Rattle.demi_sga.proofs.dev.DevSga.split.Goals as goal

pub returns-clause-heap : goal.returns-clause-heap
returns-clause-heap c h all = let first : items c.split-front.result.0 ≡ take c.args.k c.args.self = search rules in let rest : items c.split-front.result.1 ≡ drop c.args.k c.args.self = search rules in
    let parts = of_parts h c.args.k c.args.self all in (subst (AreOf h) (sym first) parts.0, subst (AreOf h) (sym rest) parts.1)
