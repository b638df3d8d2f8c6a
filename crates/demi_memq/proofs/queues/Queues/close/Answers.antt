use Rattle.std.proofs.Common.{rules, arith, ap, length, true, false, ◌∙◌, ◌++◌, ◌∷◌, []}
use Rattle.demi_memq.specs.declared.out.MemOut.TheVariants.{Shut}
use Rattle.demi_memq.proofs.EachKind.{one_added, flag}
use Rattle.demi_memq.proofs.Ending.{close_bad, close_again, close_owes, close_last}
use Rattle.std.specs.Option.{option_map}
use Rattle.demi_memq.specs.Serving.{items_said}
use Rattle.demi_memq.specs.Segments.{given, held}
use Rattle.demi_memq.proofs.Saying.{given_more, given_of_more, still_accounts}
use Rattle.demi_memq.specs.Serving.{GivenOf}
use Rattle.std.proofs.Common.{subst, sym}
use Rattle.demi_memq.proofs.queues.Queues.close.Goals as goal

pub end_pops-requires-clause-owed : goal.end_pops-requires-clause-owed
end_pops-requires-clause-owed c = close_owes 1024 c.args.history.now.value c.args.outcomes.now.value c.args.self.now.made c.args.self.now.shut.items _ (items_said c.args.self.now.waiting.items) c.args.self.now.pending.items c.requires.ready.kept (ap (option_map (λ p. p.0)) c.requires.calm) c.args.q c.if-q-self.false (flag 1024 c.args.history.now.value c.args.outcomes.now.value c.args.self.now.made c.args.self.now.shut.items _ (items_said c.args.self.now.waiting.items) c.args.self.now.pending.items c.requires.ready.kept (ap (option_map (λ p. p.0)) c.requires.calm) c.args.q c.index.result.now false c.if-q-self.false c.index.ensures c.if-index.false)

pub returns-then-q-self : goal.returns-then-q-self
returns-then-q-self c = record {
  served = close_bad 1024 c.args.history.now.value c.args.outcomes.now.value c.args.self.now.made c.args.self.now.shut.items _ (items_said c.args.self.now.waiting.items) c.args.self.now.pending.items c.requires.ready.kept (ap (option_map (λ p. p.0)) c.requires.calm) c.args.q _ c.if-q-self.true (one_added c.args.done.now.added c.add.new.self.added c.args.place.0 (length c.args.history.now.value) _ c.add.ensures.added c.requires.ready.empty c.requires.ready.next);
  sound = search rules;
  given = search rules;
  numbers = search rules;
  room = search rules;
  done = search rules;
}

pub returns-then-index : goal.returns-then-index
returns-then-index c = record {
  served = close_again 1024 c.args.history.now.value c.args.outcomes.now.value c.args.self.now.made c.args.self.now.shut.items _ (items_said c.args.self.now.waiting.items) c.args.self.now.pending.items c.requires.ready.kept (ap (option_map (λ p. p.0)) c.requires.calm) c.args.q _ c.if-q-self.false (flag 1024 c.args.history.now.value c.args.outcomes.now.value c.args.self.now.made c.args.self.now.shut.items _ (items_said c.args.self.now.waiting.items) c.args.self.now.pending.items c.requires.ready.kept (ap (option_map (λ p. p.0)) c.requires.calm) c.args.q c.index.result.now true c.if-q-self.false c.index.ensures c.if-index.true) (one_added c.args.done.now.added c.add-then-index.new.self.added c.args.place.0 (length c.args.history.now.value) _ c.add-then-index.ensures.added c.requires.ready.empty c.requires.ready.next);
  sound = search rules;
  given = search rules;
  numbers = search rules;
  room = search rules;
  done = search rules;
}

pub returns-else-index : goal.returns-else-index
returns-else-index c = record {
  served = close_last 1024 c.args.history.now.value c.args.outcomes.now.value c.args.self.now.made c.args.self.now.shut.items _ (items_said c.args.self.now.waiting.items) c.args.self.now.pending.items c.requires.ready.kept (ap (option_map (λ p. p.0)) c.requires.calm) c.args.q c.end_pops.new.done.added c.add-else-index.new.self.added c.end_pops.new.pending.items c.if-q-self.false (flag 1024 c.args.history.now.value c.args.outcomes.now.value c.args.self.now.made c.args.self.now.shut.items _ (items_said c.args.self.now.waiting.items) c.args.self.now.pending.items c.requires.ready.kept (ap (option_map (λ p. p.0)) c.requires.calm) c.args.q c.index.result.now false c.if-q-self.false c.index.ensures c.if-index.false) c.end_pops.ensures.mid c.end_pops.ensures.gone c.end_pops.ensures.others
      (c.add-else-index.ensures.added ∙ ap (λ i. c.end_pops.new.done.added ++ (i, Shut) ∷ []) c.requires.ready.next);
  sound = search rules;
  given = let h = c.args.self.now.pass.heap in
      subst (GivenOf h) (sym c.add-else-index.ensures.added) (given_of_more h c.end_pops.new.done.added c.args.place.0 Shut (c.end_pops.ensures.from h (subst (GivenOf h) (sym c.requires.ready.empty) tt)) tt);
  numbers = let a = ap given c.add-else-index.ensures.added in let m = given_more c.end_pops.new.done.added c.args.place.0 Shut in let n = c.end_pops.ensures.none in let z = ap given c.requires.ready.empty in
      still_accounts c.args.self.now.pass (held c.args.self.now.waiting.items) (held c.args.self.now.waiting.items) c.add-else-index.new.self.added 0 (omega arith);
  room = search rules;
  done = search rules;
}
