use Rattle.std.proofs.Common.{rules, ap, length}
use Rattle.demi_memq.proofs.EachKind.{one_added}
use Rattle.demi_memq.proofs.Ending.{refused}
use Rattle.std.specs.Option.{option_map}
use Rattle.demi_memq.specs.Serving.{items_said}
use Rattle.demi_memq.specs.Said.{op_said}
use Rattle.demi_memq.proofs.queues.Queues.refuse.Goals as goal

pub returns : goal.returns
returns c = record {
  served = refused 1024 c.args.history.now.value c.args.outcomes.now.value c.args.self.now.made c.args.self.now.shut.items _ (items_said c.args.self.now.waiting.items) c.args.self.now.pending.items c.requires.ready.kept c.args.at.0 (op_said c.args.op) _ (ap (option_map (λ p. p.0)) c.requires.ended) (one_added c.args.done.now.added c.add.new.self.added c.args.place.0 (length c.args.history.now.value) _ c.add.ensures.added c.requires.ready.empty c.requires.ready.next);
  sound = search rules;
  given = search rules;
  numbers = search rules;
  room = search rules;
  done = search rules;
}
