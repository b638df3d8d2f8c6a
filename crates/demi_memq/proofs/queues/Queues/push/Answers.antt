use Rattle.std.proofs.Common.{rules, ◌∙◌, sym, ap, subst, arith, length, ◌<◌, ◌≤◌, ℕ, List, [], ◌∷◌}
use Rattle.demi_memq.proofs.EachKind.{one_added, two_added, flag, push_bad, push_closed, push_wait, push_full, push_meet, ltb_less, ltb_full, Goes}
use Rattle.std.specs.Option.{option_map}
use Rattle.demi_memq.specs.Serving.{items_said}
use Rattle.demi_memq.specs.Said.{array_said}
use Rattle.demi_memq.proofs.Saying.{said_length, said_more}
use Rattle.demi_memq.specs.declared.out.MemOut.TheVariants.{Pushed}
use Rattle.demi_memq.specs.Segments.{given, held}
use Rattle.demi_memq.proofs.Saying.{given_more, held_more, still_accounts}
use Rattle.demi_heap.specs.Seen.{HalfValue}
use Rattle.demi_port_core.proofs.Lists.{each_snoc}
use Rattle.demi_sga.specs.Arrays.{AreOf}
use Rattle.demi_memq.specs.Serving.{ItemsOf}
use Rattle.demi_memq.proofs.queues.Queues.push.Goals as goal
use Rattle.demi_memq.proofs.queues.Queues.push.Goals.{then-q-self, else-q-self+then-index, else-q-self+else-index+in_default+else-has_room}
use Rattle.std.proofs.Common.{true, false}

pub returns-in-Some : goal.returns-in-Some
returns-in-Some c = record {
  served = push_meet 1024 c.args.history.now.value c.args.outcomes.now.value c.args.self.now.made c.args.self.now.shut.items _ (items_said c.args.self.now.waiting.items) c.args.self.now.pending.items c.requires.ready.kept (ap (option_map (λ p. p.0)) c.requires.calm) c.args.q c.in-Some.first _ c.args.sga _ _ c.if-q-self.false c.in-Some.ensures.first c.in-Some.ensures.rest (two_added c.args.done.now.added c.add.new.self.added c.add-in-Some.new.self.added c.in-Some.first c.args.place.0 (length c.args.history.now.value) _ _ c.add.ensures.added c.add-in-Some.ensures.added c.requires.ready.empty c.requires.ready.next);
  sound = search rules;
  given = search rules;
  numbers = search rules;
  room = search rules;
  done = search rules;
}

pub returns-then-has_room : goal.returns-then-has_room
returns-then-has_room c = record {
  served = let less : length (items_said c.args.self.now.waiting.items) < 1024 = let s = said_length c.args.self.now.waiting.items in let a = c.args.self.now.holds.0 in let d = ltb_less _ _ (sym c.has_room.ensures ∙ c.if-has_room.true) in omega arith in
      subst (λ l. Goes 1024 c.args.history.now.value c.args.outcomes.now.value (Rattle.demi_memq.specs.declared.op.MemOp.TheVariants.Push c.args.q (array_said c.args.sga)) c.add-then-has_room.new.self.added c.args.self.now.made c.args.self.now.shut.items (option_map (λ p. p.0) c.args.self.now.stop) (items_said c.push.new.self.items) l) (sym (ap (λ r. r.items) c.in_default.ensures.same))
      (subst (λ l. Goes 1024 c.args.history.now.value c.args.outcomes.now.value (Rattle.demi_memq.specs.declared.op.MemOp.TheVariants.Push c.args.q (array_said c.args.sga)) c.add-then-has_room.new.self.added c.args.self.now.made c.args.self.now.shut.items (option_map (λ p. p.0) c.args.self.now.stop) l c.args.self.now.pending.items) (sym (ap items_said c.push.ensures.items ∙ said_more c.args.q c.args.sga c.args.self.now.waiting.items))
      (push_wait 1024 c.args.history.now.value c.args.outcomes.now.value c.args.self.now.made c.args.self.now.shut.items _ (items_said c.args.self.now.waiting.items) c.args.self.now.pending.items c.requires.ready.kept (ap (option_map (λ p. p.0)) c.requires.calm) c.args.q (array_said c.args.sga) _ c.if-q-self.false (flag 1024 c.args.history.now.value c.args.outcomes.now.value c.args.self.now.made c.args.self.now.shut.items _ (items_said c.args.self.now.waiting.items) c.args.self.now.pending.items c.requires.ready.kept (ap (option_map (λ p. p.0)) c.requires.calm) c.args.q c.index.result.now false c.if-q-self.false c.index.ensures c.if-index.false) c.in_default.ensures.none less (one_added c.args.done.now.added c.add-then-has_room.new.self.added c.args.place.0 (length c.args.history.now.value) _ c.add-then-has_room.ensures.added c.requires.ready.empty c.requires.ready.next)));
  sound = let h = c.args.self.now.heap.now in let mine : AreOf h c.args.sga = subst (λ k. AreOf k c.args.sga) c.requires.ready.sound.0 c.requires.proper in
      (c.requires.ready.sound.0, subst (ItemsOf h) (sym c.push.ensures.items) (each_snoc (λ (e : ℕ × List HalfValue). AreOf h e.1) c.args.self.now.waiting.items (c.args.q, c.args.sga) c.requires.ready.sound.1 mine));
  given = search rules;
  numbers = let a = ap given c.add-then-has_room.ensures.added in let m = given_more c.args.done.now.added c.args.place.0 Pushed in let z = ap given c.requires.ready.empty in
      let r = ap held c.push.ensures.items in let h = held_more c.args.q c.args.sga c.args.self.now.waiting.items in
      still_accounts c.args.self.now.pass (held c.args.self.now.waiting.items) (held c.push.new.self.items) c.add-then-has_room.new.self.added (length c.args.sga) (omega arith);
  room = search rules;
  done = search rules;
}

pub returns : goal.returns
returns c = record {
  served = let s = c.args.self.now in let h = c.args.history.now.value in let f = c.args.outcomes.now.value in let w = items_said s.waiting.items in let n = s.pending.items in let kept = c.requires.ready.kept in
      let calm = ap (option_map (λ p. p.0)) c.requires.calm in let q = c.args.q in let said = array_said c.args.sga in let added = c.add-2.new.self.added in
      let one = one_added c.args.done.now.added added c.args.place.0 (length h) c.if-q-self.refusal c.add-2.ensures.added c.requires.ready.empty c.requires.ready.next in
      elim c.if-q-self.branch [
        | then-q-self v ↦ rw v.self-is (push_bad 1024 h f s.made s.shut.items _ w n kept calm q said added v.if-q-self.true (one ∙ (λ i. (length h, v.refusal-is i) ∷ [])))
        | else-q-self+then-index v ↦ rw v.self-is (push_closed 1024 h f s.made s.shut.items _ w n kept calm q said added v.if-q-self.false
            (flag 1024 h f s.made s.shut.items _ w n kept calm q v.index.result.now true v.if-q-self.false v.index.ensures v.if-index.true) (one ∙ (λ i. (length h, v.refusal-is i) ∷ [])))
        | else-q-self+else-index+in_default+else-has_room v ↦
            let more : 1024 ≤ length w = let a = said_length s.waiting.items in let b = s.holds.0 in let d = ltb_full _ _ (sym v.has_room.ensures ∙ v.if-has_room.false) in omega arith in
            rw v.self-is (subst (λ l. Goes 1024 h f (Rattle.demi_memq.specs.declared.op.MemOp.TheVariants.Push q said) added s.made s.shut.items (option_map (λ p. p.0) s.stop) w l) (sym (ap (λ r. r.items) v.in_default.ensures.same))
            (push_full 1024 h f s.made s.shut.items _ w n kept calm q said added v.if-q-self.false
            (flag 1024 h f s.made s.shut.items _ w n kept calm q v.index.result.now false v.if-q-self.false v.index.ensures v.if-index.false) v.in_default.ensures.none more (one ∙ (λ i. (length h, v.refusal-is i) ∷ []))))
      ];
  sound = search rules;
  given = search rules;
  numbers = search rules;
  room = search rules;
  done = search rules;
}
