use Rattle.std.proofs.Common.{[], ◌∷◌, refl, ◌∙◌}
use Rattle.demi_memq.specs.Said.{array_said}
use Rattle.demi_memq.specs.declared.op.MemOp.TheVariants.{Pop}
use Rattle.demi_memq.specs.declared.out.MemOut.TheVariants.{Closed, Item}
use Rattle.demi_sharing.proofs.Acts.{acts_looked, acts_of}
use Rattle.demi_sharing.proofs.Numbers.{number_said}
use Rattle.demi_sharing.proofs.taking.pop_one.Goals as goal

pub returns-in-Closed : goal.returns-in-Closed
returns-in-Closed g c = record {
  of = c.in-Closed.ensures.of;
  popped = acts_of (Pop 0) Closed c.give_pop-token.result.token.0 c.args.caller.now c.give_pop-token.new.caller c.redeem.new.caller c.give_pop-token.ensures.gave c.in-Closed.ensures.came;
}

pub returns-in-Item : goal.returns-in-Item
returns-in-Item g c =
    let sga = c.in-Item.sga in
    let b = c.args.caller.now in
    let e = c.redeem.new.caller in
    record {
      of = c.unpack.ensures.of;
      popped = (
        (Pop 0, Item (array_said sga)),
        (array_said sga, refl, number_said sga ∙ c.unpack.ensures.number),
        acts_looked ((Pop 0, Item (array_said sga)) ∷ []) b e c.unpack.new.caller
            (acts_of (Pop 0) (Item sga) c.give_pop-token.result.token.0 b c.give_pop-token.new.caller e c.give_pop-token.ensures.gave c.in-Item.ensures.came)
            c.unpack.ensures.looked,
      );
    }
