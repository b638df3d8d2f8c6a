use Rattle.std.proofs.Common.{rules, ◌≡◌, ◌<◌, ℕ, length, get_or, subst, sym, ◌∙◌, arith}
use Rattle.demi_bench.specs.Linking.{IsPairOf}
use Rattle.demi_bench.specs.declared.line.Wire.{Wire}
use Rattle.demi_bench.proofs.session_work.run_pairs.Goals as goal

pub for_each_mut-requires-clause-accepts : goal.for_each_mut-requires-clause-accepts
for_each_mut-requires-clause-accepts g c κs within = λ i p low is. let many = c.requires.0 in
    let short : i < length c.args.wires.now = omega (arith, low, many) in
    let here : (w : Wire) → IsPairOf (get_or c.args.wires.now i w) p.now = λ w. subst (IsPairOf (get_or c.args.wires.now i w)) (sym is) (c.requires.1 i w p.now short) in search (rules, short, here)

pub returns : goal.returns
returns g c = let many = c.requires.0 in (search rules, λ i w p low. let k = (c.for_each_mut.ensures i p (omega (arith, low, many))).1 in subst (IsPairOf (get_or c.args.wires.now i w)) k.left (k.call.1 w))
