use Rattle.std.proofs.Common.{rules, ◌≡◌, ◌++◌, sym, subst}
use Rattle.demi_sga.specs.Arrays.{AreOf}
use Rattle.demi_sga.proofs.Lists.{append_of}
use Rattle.demi_sga.proofs.app.AppSga.join.Goals as goal

pub returns-clause-heap : goal.returns-clause-heap
returns-clause-heap c h one two = let whole : c.of_row.result ≡ c.args.first ++ c.args.second = search rules in
    subst (AreOf h) (sym whole) (append_of h c.args.first c.args.second one two)
