use Rattle.std.proofs.Common.{rules, ap, length}
use Rattle.demi_memq.proofs.EachKind.{one_added, queue_made, queue_many}
use Rattle.std.specs.Option.{option_map}
use Rattle.demi_memq.specs.Serving.{items_said}
use Rattle.demi_memq.proofs.queues.Queues.queue.Goals as goal

pub returns-then-self-lt-MOST_QUEUES : goal.returns-then-self-lt-MOST_QUEUES
returns-then-self-lt-MOST_QUEUES c = record {
  served = queue_made 1024 c.args.history.now.value c.args.outcomes.now.value c.args.self.now.made c.args.self.now.shut.items _ (items_said c.args.self.now.waiting.items) c.args.self.now.pending.items c.requires.ready.kept (ap (option_map (λ p. p.0)) c.requires.calm) _ c.if-self-lt-MOST_QUEUES.true (one_added c.args.done.now.added c.add.new.self.added c.args.place.0 (length c.args.history.now.value) _ c.add.ensures.added c.requires.ready.empty c.requires.ready.next);
  sound = search rules;
  given = search rules;
  numbers = search rules;
  room = search rules;
  done = search rules;
}

pub returns-else-self-lt-MOST_QUEUES : goal.returns-else-self-lt-MOST_QUEUES
returns-else-self-lt-MOST_QUEUES c = record {
  served = queue_many 1024 c.args.history.now.value c.args.outcomes.now.value c.args.self.now.made c.args.self.now.shut.items _ (items_said c.args.self.now.waiting.items) c.args.self.now.pending.items c.requires.ready.kept (ap (option_map (λ p. p.0)) c.requires.calm) _ c.if-self-lt-MOST_QUEUES.false (one_added c.args.done.now.added c.add-else-self-lt-MOST_QUEUES.new.self.added c.args.place.0 (length c.args.history.now.value) _ c.add-else-self-lt-MOST_QUEUES.ensures.added c.requires.ready.empty c.requires.ready.next);
  sound = search rules;
  given = search rules;
  numbers = search rules;
  room = search rules;
  done = search rules;
}
