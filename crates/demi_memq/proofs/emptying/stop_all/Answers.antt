use Rattle.std.proofs.Common.{◌≡◌, ◌≢◌, ℕ, ◌+◌, ◌<◌, ◌≤◌, ◌++◌, ◌∷◌, [], ap, sym, ◌∙◌, subst, arith, length}
use Rattle.std.specs.Prelude.{Some, slice_get}
use Rattle.demi_memq.specs.declared.out.MemOut.TheVariants.{Stopped}
use Rattle.demi_memq.specs.declared.op.MemOp.TheVariants.{Stop}
use Rattle.demi_memq.specs.Counting.{beside, result_at}
use Rattle.demi_memq.specs.Rooms.{Mid}
use Rattle.demi_memq.proofs.Lists.{by_number, none_at_all}
use Rattle.demi_memq.proofs.emptying.stop_all.Goals as goal

pub loop-q-preserved : goal.loop-q-preserved
loop-q-preserved c =
    let i = c.loop-q.invariant in let e = c.end_pops.ensures in let q = c.loop-q.q in let n' = c.end_pops.new.pending.items in let next = c.args.history.now.value ++ Stop ∷ [] in
    record {
      mid = e.mid;
      owed = λ j. by_number (λ j. (k p : ℕ) → slice_get (beside j n') k ≡ Some p → result_at 1024 next p ≡ Some (Stopped c.args.place)) q j
          (λ k p is. let none : slice_get {X = ℕ} [] k ≡ Some p = ap (λ l. slice_get l k) (sym e.gone) ∙ is in absurd (cc))
          (λ ne k p is. i.owed j k p (ap (λ l. slice_get l k) (sym (e.others j ne)) ∙ is));
      below = λ j. by_number (λ j. j < q + 1 → beside j n' ≡ []) q j (λ _. e.gone) (λ ne lt. e.others j ne ∙ i.below j (omega arith));
      above = λ j le. let ne : q ≢ j = let lt = c.loop-q-test.true in omega arith in e.others j ne ∙ i.above j le;
      none = e.none ∙ i.none;
      from = λ h given_of. e.from h (i.from h given_of);
      room = e.room ∙ i.room;
      holds = e.holds;
      rooms = (e.rooms.0 ∙ i.rooms.0, e.rooms.1 ∙ i.rooms.1, i.rooms.2);
    }

pub returns-clause-empty : goal.returns-clause-empty
returns-clause-empty c = let i = c.loop-q.invariant in none_at_all _ c.loop-q.pending.items (λ j lt. i.below j (let t = c.loop-q-test.false in omega arith)) i.above

pub returns-clause-mid : goal.returns-clause-mid
returns-clause-mid c =
    let h = c.args.history.now.value in let i = c.loop-q.invariant in
    subst (λ n. Mid 1024 h (h ++ Stop ∷ []) c.args.outcomes.now.value c.loop-q.done.added n)
    (none_at_all _ c.loop-q.pending.items (λ j lt. i.below j (let t = c.loop-q-test.false in omega arith)) i.above) i.mid
