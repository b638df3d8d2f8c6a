use Rattle.std.proofs.Common.{rules, ◌∙◌, sym, ap, subst, arith, length}
use Rattle.demi_memq.proofs.EachKind.{one_added, flag, pop_bad, pop_item, pop_shut, pop_wait, Goes}
use Rattle.std.specs.Option.{option_map}
use Rattle.demi_memq.specs.Serving.{items_said}
use Rattle.demi_memq.proofs.Saying.{said_first, said_none, said_rest}
use Rattle.demi_memq.specs.declared.out.MemOut.TheVariants.{Item}
use Rattle.demi_memq.specs.Segments.{given, held}
use Rattle.demi_memq.specs.Serving.{ItemsOf}
use Rattle.demi_memq.proofs.Saying.{given_more, given_of_more, item_of, held_rest, items_rest, still_accounts}
use Rattle.demi_sga.specs.Arrays.{AreOf}
use Rattle.demi_memq.specs.Serving.{GivenOf}
use Rattle.demi_memq.proofs.queues.Queues.pop.Goals as goal
use Rattle.std.proofs.Common.{true, false}

pub returns-then-q-self : goal.returns-then-q-self
returns-then-q-self c = record {
  served = pop_bad 1024 c.args.history.now.value c.args.outcomes.now.value c.args.self.now.made c.args.self.now.shut.items _ (items_said c.args.self.now.waiting.items) c.args.self.now.pending.items c.requires.ready.kept (ap (option_map (λ p. p.0)) c.requires.calm) c.args.q _ c.if-q-self.true (one_added c.args.done.now.added c.add.new.self.added c.args.place.0 (length c.args.history.now.value) _ c.add.ensures.added c.requires.ready.empty c.requires.ready.next);
  sound = search rules;
  given = search rules;
  numbers = search rules;
  room = search rules;
  done = search rules;
}

pub returns-in-Some : goal.returns-in-Some
returns-in-Some c = record {
  served = pop_item 1024 c.args.history.now.value c.args.outcomes.now.value c.args.self.now.made c.args.self.now.shut.items _ (items_said c.args.self.now.waiting.items) c.args.self.now.pending.items c.requires.ready.kept (ap (option_map (λ p. p.0)) c.requires.calm) c.args.q c.in-Some.sga _ _ _ c.if-q-self.false (said_first c.args.q c.in-Some.sga _ c.args.self.now.waiting.items c.in-Some.ensures.first) (ap items_said c.in-Some.ensures.rest ∙ said_rest c.args.q c.args.self.now.waiting.items) (one_added c.args.done.now.added c.add-in-Some.new.self.added c.args.place.0 (length c.args.history.now.value) _ c.add-in-Some.ensures.added c.requires.ready.empty c.requires.ready.next);
  sound = (c.requires.ready.sound.0, subst (ItemsOf c.args.self.now.heap.now) (sym c.in-Some.ensures.rest) (items_rest c.args.self.now.heap.now c.args.q c.args.self.now.waiting.items c.requires.ready.sound.1));
  given = let h = c.args.self.now.pass.heap in
      let mine : AreOf h c.in-Some.sga = subst (λ k. AreOf k c.in-Some.sga) (sym c.requires.ready.sound.0) (item_of c.args.self.now.heap.now c.args.q c.in-Some.sga _ c.args.self.now.waiting.items c.requires.ready.sound.1 c.in-Some.ensures.first) in
      subst (GivenOf h) (sym c.add-in-Some.ensures.added) (given_of_more h c.args.done.now.added c.args.place.0 (Item c.in-Some.sga) (subst (GivenOf h) (sym c.requires.ready.empty) tt) mine);
  numbers = let a = ap given c.add-in-Some.ensures.added in let m = given_more c.args.done.now.added c.args.place.0 (Item c.in-Some.sga) in let z = ap given c.requires.ready.empty in
      let r = ap held c.in-Some.ensures.rest in let h = held_rest c.args.q c.in-Some.sga _ c.args.self.now.waiting.items c.in-Some.ensures.first in
      still_accounts c.args.self.now.pass (held c.args.self.now.waiting.items) (held c.pop.new.self.items) c.add-in-Some.new.self.added 0 (omega arith);
  room = search rules;
  done = search rules;
}

pub returns-then-index : goal.returns-then-index
returns-then-index c = record {
  served = subst (λ l. Goes 1024 c.args.history.now.value c.args.outcomes.now.value (Rattle.demi_memq.specs.declared.op.MemOp.TheVariants.Pop c.args.q) c.add-then-index.new.self.added c.args.self.now.made c.args.self.now.shut.items (option_map (λ p. p.0) c.args.self.now.stop) l c.args.self.now.pending.items) (sym (ap (λ r. items_said r.items) c.in_default.ensures.same))
      (pop_shut 1024 c.args.history.now.value c.args.outcomes.now.value c.args.self.now.made c.args.self.now.shut.items _ (items_said c.args.self.now.waiting.items) c.args.self.now.pending.items c.requires.ready.kept (ap (option_map (λ p. p.0)) c.requires.calm) c.args.q _ c.if-q-self.false (flag 1024 c.args.history.now.value c.args.outcomes.now.value c.args.self.now.made c.args.self.now.shut.items _ (items_said c.args.self.now.waiting.items) c.args.self.now.pending.items c.requires.ready.kept (ap (option_map (λ p. p.0)) c.requires.calm) c.args.q c.index.result.now true c.if-q-self.false c.index.ensures c.if-index.true) (said_none c.args.q c.args.self.now.waiting.items c.in_default.ensures.none) (one_added c.args.done.now.added c.add-then-index.new.self.added c.args.place.0 (length c.args.history.now.value) _ c.add-then-index.ensures.added c.requires.ready.empty c.requires.ready.next));
  sound = search rules;
  given = search rules;
  numbers = search rules;
  room = search rules;
  done = search rules;
}

pub returns-else-index : goal.returns-else-index
returns-else-index c = record {
  served = subst (λ l. Goes 1024 c.args.history.now.value c.args.outcomes.now.value (Rattle.demi_memq.specs.declared.op.MemOp.TheVariants.Pop c.args.q) c.args.done.now.added c.args.self.now.made c.args.self.now.shut.items (option_map (λ p. p.0) c.args.self.now.stop) l c.push.new.self.items) (sym (ap (λ r. items_said r.items) c.in_default.ensures.same))
      (pop_wait 1024 c.args.history.now.value c.args.outcomes.now.value c.args.self.now.made c.args.self.now.shut.items _ (items_said c.args.self.now.waiting.items) c.args.self.now.pending.items c.requires.ready.kept (ap (option_map (λ p. p.0)) c.requires.calm) c.args.q c.args.place.0 c.args.done.now.added c.push.new.self.items c.if-q-self.false (flag 1024 c.args.history.now.value c.args.outcomes.now.value c.args.self.now.made c.args.self.now.shut.items _ (items_said c.args.self.now.waiting.items) c.args.self.now.pending.items c.requires.ready.kept (ap (option_map (λ p. p.0)) c.requires.calm) c.args.q c.index.result.now false c.if-q-self.false c.index.ensures c.if-index.false) (said_none c.args.q c.args.self.now.waiting.items c.in_default.ensures.none) c.requires.ready.next c.push.ensures.items c.requires.ready.empty);
  sound = search rules;
  given = search rules;
  numbers = search rules;
  room = search rules;
  done = search rules;
}
