use Rattle.std.proofs.Common.{◌≡◌, ◌<◌, ℕ, length, get_or, subst, sym, ◌∙◌, arith}
use Rattle.demi_bench.specs.Linking.{IsLineOf, OwesFor}
use Rattle.demi_bench.proofs.Links.{owes_set}
use Rattle.demi_bench.proofs.Paired.{paired_set, same_there}
use Rattle.demi_bench.proofs.session_work.walk.Goals as goal

pub loop-i-preserved : goal.loop-i-preserved
loop-i-preserved g c = let v = c.loop-i.invariant in let low = c.loop-i-test.true in let many = v.lines.0 in let look = c.look-went_on.ensures in
    let moves : OwesFor (get_or c.loop-i.lines c.loop-i.i c.index-lines-i.result) c.loop-i.pass c.look-went_on.new.self c.look-went_on.new.pass = look.store in record {
      lines = paired_set (IsLineOf c.args.requests) c.args.wires.now c.loop-i.lines c.loop-i.i c.look-went_on.new.self v.lines
          (λ w. subst (λ z. IsLineOf c.args.requests z c.look-went_on.new.self) (c.index-wires-i.is ∙ same_there c.args.wires.now c.loop-i.i c.index-wires-i.result w low) look.line);
      store = owes_set c.args.store.now c.loop-i.lines c.loop-i.i c.index-lines-i.result c.look-went_on.new.self c.loop-i.pass c.look-went_on.new.pass v.store (omega (arith, low, many)) moves;
      number = moves.1 ∙ v.number;
    }
