use Rattle.std.proofs.Common.{◌+◌, ◌≡◌, ◌++◌, ◌∷◌, [], ap, sym, ◌∙◌, subst, arith, suc, length, length-append}
use Rattle.demi_memq.specs.Counting.{beside}
use Rattle.demi_memq.specs.Rooms.{Mid}
use Rattle.demi_memq.specs.Segments.{given, out_segments}
use Rattle.demi_memq.specs.Serving.{GivenOf, ends_by, ends_as}
use Rattle.demi_memq.proofs.Lists.{rest_other}
use Rattle.demi_memq.proofs.Keeping.{mid_done}
use Rattle.demi_memq.proofs.Ending.{first_at, later_at}
use Rattle.demi_memq.proofs.Saying.{given_more, given_of_more, ends_give, ends_from}
use Rattle.demi_memq.proofs.emptying.end_pops.Goals as goal

pub loop-first-smaller : goal.loop-first-smaller
loop-first-smaller c = let a = c.in-Some.ensures.less in omega arith

pub loop-first-preserved : goal.loop-first-preserved
loop-first-preserved c =
    let h = c.args.history.now.value in let f = c.args.outcomes.now.value in let q = c.args.q in let by = ends_by q c.args.stop in let so = ends_as c.args.stop in
    let n = c.loop-first.pending.items in let n' = c.pop.new.self.items in let old = c.loop-first.done.added in let p = c.in-Some.first in let i = c.loop-first.invariant in
    let more : c.add.new.self.added ≡ old ++ (p, so) ∷ [] = c.add.ensures.added ∙ ap (λ o. old ++ (p, o) ∷ []) c.ending.ensures in
    let d = mid_done 1024 q p (beside q n') h by f old n so i.mid c.in-Some.ensures.first (i.owed 0 p (first_at q p n n' c.in-Some.ensures.first)) in
    record {
      mid = subst (λ l. Mid 1024 h (h ++ by ∷ []) f l n') (sym more) (subst (λ l. Mid 1024 h (h ++ by ∷ []) f (old ++ (p, so) ∷ []) l) (sym c.in-Some.ensures.rest) d);
      owed = λ k j e. i.owed (suc k) j (later_at q p k j n n' c.in-Some.ensures.first e);
      others = λ j ne. ap (beside j) c.in-Some.ensures.rest ∙ rest_other q j n ne ∙ i.others j ne;
      none = ap given more ∙ given_more old p so
          ∙ (let s : given old + out_segments so ≡ given old = let z = ends_give c.args.stop in omega arith in s) ∙ i.none;
      from = λ k given_of. subst (GivenOf k) (sym more) (given_of_more k old p so (i.from k given_of) (ends_from k c.args.stop));
      room = c.add.ensures.room ∙ i.room;
      holds = let e = ap length c.add.ensures.added in let l = length-append old ((p, c.ending.result) ∷ []) in let less = c.in-Some.ensures.less in let holds = i.holds in let room = c.add.ensures.room in
          omega arith;
      rooms = (c.pop.ensures.room.1 ∙ i.rooms.0, c.pop.ensures.room.0 ∙ i.rooms.1);
    }
