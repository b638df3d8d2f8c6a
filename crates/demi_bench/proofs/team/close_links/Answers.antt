use Rattle.std.proofs.Common.{◌++◌, ◌∷◌, [], subst}
use Rattle.demi_bench.specs.Linking.{ArePaired, IsPairOf, IsStill}
use Rattle.demi_bench.proofs.Paired.{paired_pop}
use Rattle.demi_bench.proofs.team.close_links.Goals as goal

pub close_link-requires-clause-pair : goal.close_link-requires-clause-pair
close_link-requires-clause-pair c = (paired_pop IsPairOf c.pop.new.self.items c.pop-in-Some-2.new.self.items c.in-Some.wire c.in-Some-pop-2.pair
    (subst (λ ws. ArePaired IsPairOf ws (c.pop-in-Some-2.new.self.items ++ c.in-Some-pop-2.pair ∷ [])) c.in-Some.ensures.items
    (subst (ArePaired IsPairOf c.closing.wires.items) c.in-Some-pop-2.ensures.items c.closing.invariant.pairs))).1

pub closing-preserved : goal.closing-preserved
closing-preserved c = record {
  lines = (paired_pop IsStill c.pop.new.self.items c.pop-in-Some.new.self.items c.in-Some.wire c.in-Some-pop.line
      (subst (λ ws. ArePaired IsStill ws (c.pop-in-Some.new.self.items ++ c.in-Some-pop.line ∷ [])) c.in-Some.ensures.items
      (subst (ArePaired IsStill c.closing.wires.items) c.in-Some-pop.ensures.items c.closing.invariant.lines))).0;
  pairs = (paired_pop IsPairOf c.pop.new.self.items c.pop-in-Some-2.new.self.items c.in-Some.wire c.in-Some-pop-2.pair
      (subst (λ ws. ArePaired IsPairOf ws (c.pop-in-Some-2.new.self.items ++ c.in-Some-pop-2.pair ∷ [])) c.in-Some.ensures.items
      (subst (ArePaired IsPairOf c.closing.wires.items) c.in-Some-pop-2.ensures.items c.closing.invariant.pairs))).0;
}
