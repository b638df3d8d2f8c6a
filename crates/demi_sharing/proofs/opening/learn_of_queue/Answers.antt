use Rattle.demi_sharing.proofs.Learnt.{learnt_set, noted_set}
use Rattle.std.proofs.Common.{Some}
use Rattle.demi_sharing.proofs.opening.learn_of_queue.Goals as goal

pub returns-clause-caller : goal.returns-clause-caller
returns-clause-caller c = λ n was. learnt_set c.args.demi.now n c.args.caller.now c.args.first.now c.learn.new.caller c.learn.ensures.caller c.learn.ensures.of.0 was

pub returns-clause-first : goal.returns-clause-first
returns-clause-first c = λ n t was. noted_set c.args.demi.now n (Some t) c.args.first.now c.learn.new.from c.learn.ensures.from c.learn.ensures.of.1 was
