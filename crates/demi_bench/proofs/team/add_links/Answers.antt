use Rattle.std.proofs.Common.{◌≡◌, ◌++◌, ◌∷◌, [], subst, sym, ◌∙◌, arith}
use Rattle.demi_bench.specs.Linking.{ArePaired, AreIdle, IsLineOf, IsPairOf}
use Rattle.demi_bench.specs.declared.line.Waits.TheVariants.{Nothing}
use Rattle.demi_bench.proofs.Paired.{all_push, paired_push}
use Rattle.demi_bench.proofs.team.add_links.Goals as goal

pub loop-preserved : goal.loop-preserved
loop-preserved c = let v = c.loop.invariant in let made = c.in-Some.ensures in
    let ws = c.loop.wires.items ++ c.in-Some.wire ∷ [] in
    let a = c.push_reserved.ensures in let b = c.push_reserved-in-loop.ensures in let d = c.push_reserved-in-loop-2.ensures in record {
      filled =
          (let e = a.len in let f = v.filled.0 in omega (arith, e, f), let e = b.len in let f = v.filled.1 in omega (arith, e, f), let e = d.len in let f = v.filled.2 in omega (arith, e, f));
      room = (a.capacity ∙ v.room.0, b.capacity ∙ v.room.1, d.capacity ∙ v.room.2);
      lines = λ n. subst (λ xs. ArePaired (IsLineOf n) xs c.push_reserved-in-loop.new.self.items) (sym a.items) (subst (ArePaired (IsLineOf n) ws) (sym b.items)
          (paired_push (IsLineOf n) c.loop.wires.items c.loop.lines.items c.in-Some.wire c.in-Some.line (v.lines n) (made.lines n)));
      idle = subst AreIdle (sym b.items) (all_push (λ l. l.waits ≡ Nothing) c.loop.lines.items c.in-Some.line v.idle made.waits);
      pairs = subst (λ xs. ArePaired IsPairOf xs c.push_reserved-in-loop-2.new.self.items) (sym a.items) (subst (ArePaired IsPairOf ws) (sym d.items)
          (paired_push IsPairOf c.loop.wires.items c.loop.pairs.items c.in-Some.wire c.in-Some.pair v.pairs made.pairs));
    }
