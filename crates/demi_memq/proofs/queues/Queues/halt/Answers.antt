use Rattle.std.proofs.Common.{rules, arith, ap, ◌∙◌, ◌++◌, ◌∷◌, [], sym, Some}
use Rattle.demi_memq.specs.Counting.{stopped_at}
use Rattle.demi_memq.specs.declared.out.MemOut.TheVariants.{Halted}
use Rattle.demi_memq.proofs.Ending.{stop_owes, stop_last}
use Rattle.std.specs.Option.{option_map}
use Rattle.demi_memq.specs.Serving.{items_said}
use Rattle.demi_memq.specs.Segments.{given, held}
use Rattle.demi_memq.proofs.Saying.{accounts, given_more, given_of_more}
use Rattle.demi_memq.specs.Serving.{GivenOf}
use Rattle.std.proofs.Common.{subst}
use Rattle.demi_memq.proofs.queues.Queues.halt.Goals as goal

pub stop_all-requires-clause-owed : goal.stop_all-requires-clause-owed
stop_all-requires-clause-owed c = λ q i p e. stop_owes 1024 c.args.history.now.value c.args.outcomes.now.value c.args.self.now.made c.args.self.now.shut.items _ (items_said c.args.self.now.waiting.items) c.args.self.now.pending.items c.requires.ready.kept (ap (option_map (λ p. p.0)) c.requires.calm) q i p e ∙ ap (λ k. Some (stopped_at k)) (sym c.requires.ready.next)

pub returns : goal.returns
returns c = record {
  served = stop_last 1024 c.args.history.now.value c.args.outcomes.now.value c.args.self.now.made c.args.self.now.shut.items _ (items_said c.args.self.now.waiting.items) c.args.self.now.pending.items c.requires.ready.kept (ap (option_map (λ p. p.0)) c.requires.calm) c.args.place.0 c.stop_all.new.done.added c.add.new.self.added (items_said c.release_all.new.waiting.items) c.stop_all.new.pending.items c.requires.ready.next c.stop_all.ensures.mid (ap items_said c.release_all.ensures.empty) c.stop_all.ensures.empty
      (c.add.ensures.added ∙ ap (λ i. c.stop_all.new.done.added ++ (i, Halted) ∷ []) c.requires.ready.next);
  sound = search rules;
  given = let h = c.release_all.new.pass.heap in
      subst (GivenOf h) (sym c.add.ensures.added) (given_of_more h c.stop_all.new.done.added c.args.place.0 Halted (c.stop_all.ensures.from h (subst (GivenOf h) (sym c.requires.ready.empty) tt)) tt);
  numbers = let e = ap held c.release_all.ensures.empty in let a = ap given c.add.ensures.added in let m = given_more c.stop_all.new.done.added c.args.place.0 Halted in let n = c.stop_all.ensures.none in let z = ap given c.requires.ready.empty in
      accounts c.args.self.now.pass c.release_all.new.pass (held c.args.self.now.waiting.items) (held c.args.self.now.waiting.items) (held c.release_all.new.waiting.items) c.add.new.self.added 0 c.release_all.ensures.pass (omega arith);
  room = search rules;
  done = search rules;
}
