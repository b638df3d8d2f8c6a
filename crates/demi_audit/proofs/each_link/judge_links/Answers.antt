use Rattle.std.proofs.Common.{None, Some, arith, drop, get_or, take}
use Rattle.demi_audit.specs.Hearing.{replies_by}
use Rattle.demi_audit.proofs.EachLink.{cut_input, follows_count, link_decides, no_link, peel, places_count, said_are}
use Rattle.demi_audit.proofs.Hearings.{no_places}
use Rattle.demi_audit.proofs.each_link.judge_links.Goals as goal

pub bounds-links-l : goal.bounds-links-l
bounds-links-l c =
    let s = c.args.case.now in
    let h = c.requires.heard in
    omega (arith, c.links-test.true, places_count s.text.now c.args.places.now h.0 h.1, follows_count s.text.now s.heard.items c.args.links.now h.0 h.2)

pub returns-in-Some : goal.returns-in-Some
returns-in-Some c = λ run all later h of f.
    let s = c.args.case.now in
    let text = s.text.now in
    let heard = s.heard.items in
    let places = c.args.places.now in
    let links = c.args.links.now in
    let n = c.links.l in
    let from = c.links.from in
    let k = peel text heard places links all from n (omega (arith, c.links-test.true)) (places_count text places all of) (follows_count text heard links all f) (c.links.invariant.follows all of f) in
    let p = get_or places n no_places in
    let replies = replies_by text (take (get_or links n no_link).count (drop from heard)) in
    let is = cut_input run text heard from n k.first.rest p replies (Some c.in-Some.index) (c.in-Some.ensures run k.first.rest h k.one.more) in
    link_decides run text heard places links all from n later (Some c.in-Some.index) (said_are text heard links all f) k is (c.links.invariant.decides run all later h of f)

pub links-preserved : goal.links-preserved
links-preserved c =
    let s = c.args.case.now in
    let text = s.text.now in
    let heard = s.heard.items in
    let places = c.args.places.now in
    let links = c.args.links.now in
    let n = c.links.l in
    let from = c.links.from in
    record {
      follows = λ all of f. (peel text heard places links all from n (omega (arith, c.links-test.true)) (places_count text places all of) (follows_count text heard links all f) (c.links.invariant.follows all of f)).next;
      decides = λ run all later h of f.
          let k = peel text heard places links all from n (omega (arith, c.links-test.true)) (places_count text places all of) (follows_count text heard links all f) (c.links.invariant.follows all of f) in
          let p = get_or places n no_places in
          let replies = replies_by text (take (get_or links n no_link).count (drop from heard)) in
          let is = cut_input run text heard from n k.first.rest p replies None (c.in-None.ensures run k.first.rest h k.one.more) in
          link_decides run text heard places links all from n later None (said_are text heard links all f) k is (c.links.invariant.decides run all later h of f);
    }
