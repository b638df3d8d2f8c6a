use Rattle.std.proofs.Common.{List, ℕ, subst, sym}
use Rattle.demi_pdpix.specs.Seen.{IsOf}
use Rattle.demi_sharing.specs.Acting.{AreLinks, Pops}
use Rattle.demi_sharing.proofs.Acts.{sides_on}
use Rattle.demi_sharing.proofs.Dealt.{no_pops, pops_more, takes_up}
use Rattle.demi_sharing.proofs.Links.{no_links}
use Rattle.demi_sharing.proofs.taking.take_all.Goals as goal

pub loop-init : goal.loop-init
loop-init g c =
    let b = c.args.caller.now in
    record {
      of = c.requires.of;
      popped = subst (λ (l : List ℕ). Pops l b b) (sym c.new-numbers.ensures) (no_pops b);
      links = subst (AreLinks c.args.links) (sym c.new-numbers.ensures) (no_links c.args.links);
    }

pub loop-preserved : goal.loop-preserved
loop-preserved g c =
    let b = c.args.caller.now in
    let m = c.loop.caller in
    let e = c.pop_one.new.caller in
    let n = c.in-Some-pop_one.number in
    record {
      of = subst (IsOf c.args.demi.now) (sym c.note.ensures.same) c.in-Some-pop_one.ensures.of;
      popped = subst (λ (l : List ℕ). Pops l b c.note.new.caller) (sym c.note.ensures.items)
          (subst (Pops _ b) (sym c.note.ensures.same) (pops_more c.loop.numbers.items n b m e c.loop.invariant.popped c.in-Some-pop_one.ensures.popped));
      links = c.note.ensures.links;
    }

pub returns-in-None-pop_one : goal.returns-in-None-pop_one
returns-in-None-pop_one g c =
    let b = c.args.caller.now in
    let m = c.loop.caller in
    let e = c.pop_one.new.caller in
    let p = c.loop.invariant.popped in
    let last = c.in-None-pop_one.ensures.popped in
    record {
      of = c.in-None-pop_one.ensures.of;
      took = takes_up c.loop.numbers.items b m e p last;
      sides = sides_on b m e p.acts.sides last.sides;
      owes = λ k f due. last.owes k f (p.acts.owes k f due);
      links = c.loop.invariant.links;
    }
