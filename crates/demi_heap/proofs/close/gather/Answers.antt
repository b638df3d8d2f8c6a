use Rattle.std.proofs.Common.{rules, arith, ◌≡◌}
use Rattle.std.proofs.lemmas.Grind.{common_steps}
use Rattle.std.proofs.lemmas.List.Elements.{All-pop}
use Rattle.demi_heap.proofs.close.gather.Goals as goal

pub loop-pass-preserved : goal.loop-pass-preserved
loop-pass-preserved c = let pop = c.pop-in-loop-pass in
    let left = All-pop (λ p. p.heap.table ≡ c.args.words.now.table_id) c.loop-pass.passes.items pop.new.self.items pop.result pop.ensures.items c.loop-pass.invariant.8 in (
      search rules,
      search rules,
      search rules,
      grind (arith, common_steps),
      grind (arith, common_steps),
      grind (arith, common_steps),
      grind (arith, common_steps),
      grind (arith, common_steps),
      left.0,
    )
