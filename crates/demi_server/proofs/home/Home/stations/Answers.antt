use Rattle.std.proofs.Common.{rules, ◌∙◌, ◌+◌, ◌≤◌, All, length, ap, sym, subst, arith, refl, inr}
use Rattle.demi_server.specs.Building.{IsEmptyHome, IsLinkNew, IsLinkSpent, IsSeated, ends_of, rx_of, tx_of}
use Rattle.demi_server.proofs.Homes.{all_and_one, all_reversed, last_seated, none_away, one_less, room_here, room_on, roomy_on, seated_here, went}
use Rattle.demi_server.proofs.home.Home.stations.Goals as goal

pub loop-parts-init : goal.loop-parts-init
loop-parts-init g c =
    let h = c.args.self.now in let made = c.in_ok-made.made in let none = c.in_ok-made.ensures.items in let n = ap length none in
    let room = c.in_ok-made.ensures.capacity in let len = c.len.ensures in let ok = h.links.ok.0 in
    let low : length h.links.items + length made.items ≤ length h.links.items = omega (arith, n) in
    record {
      links = none_away ends_of h.links.items made.items none;
      rx = none_away rx_of h.rx.items made.items none;
      tx = none_away tx_of h.tx.items made.items none;
      new = λ k d less. absurd (omega (arith, less, n));
      spent = λ k d less. absurd (omega (arith, less, n));
      seated_rx = c.requires.seated.0;
      seated_tx = c.requires.seated.1;
      few = c.requires.few;
      even = c.requires.even;
      made = omega (arith, n, room, len, ok);
      room = room_on (length h.links.items) (length h.links.items + length made.items) h h low (record { links = refl; rx = refl; tx = refl }) (room_here h c.requires.even);
      same = record { links = refl; rx = refl; tx = refl };
    }

pub link_stations-requires-clause-rx : goal.link_stations-requires-clause-rx
link_stations-requires-clause-rx g c = let new = c.take.new.self in let d = c.args.demi.now in
    subst (λ h. IsSeated h c.rx.result.now 64 c.in-Some.parts.rx) (sym c.heap.ensures)
    (seated_here d.heap d.rx 64 c.len-k.result c.loop-parts.self.rx.items new.rx.items c.in-Some.parts.rx c.rx.result.now c.in-Some.ensures.some.rx c.loop-parts.invariant.seated_rx (c.len-k.ensures ∙ new.links.ok.0 ∙ sym c.in-Some.ensures.even.rx) c.rx.ensures)

pub link_stations-requires-clause-tx : goal.link_stations-requires-clause-tx
link_stations-requires-clause-tx g c = let new = c.take.new.self in let d = c.args.demi.now in
    subst (λ h. IsSeated h c.tx.result.now 64 c.in-Some.parts.tx) (sym c.heap.ensures)
    (seated_here d.heap d.tx 64 c.len-k.result c.loop-parts.self.tx.items new.tx.items c.in-Some.parts.tx c.tx.result.now c.in-Some.ensures.some.tx c.loop-parts.invariant.seated_tx (c.len-k.ensures ∙ new.links.ok.0 ∙ sym c.in-Some.ensures.even.tx) c.tx.ensures)

pub loop-parts-preserved : goal.loop-parts-preserved
loop-parts-preserved g c =
    let v = c.loop-parts.invariant in let old = c.loop-parts.self in let new = c.take.new.self in let p = c.in-Some.parts in let lost = c.in-Some.ensures.some in
    let made = c.loop-parts.made.items in let more = c.push_reserved.new.self in let d = c.in-Ok.stations in let is = c.in-Ok.ensures.made in let pushed = c.push_reserved.ensures.items in
    let whole = c.args.demi.now in
    let rx = last_seated whole.heap whole.rx 64 old.rx.items new.rx.items p.rx lost.rx v.seated_rx in
    let tx = last_seated whole.heap whole.tx 64 old.tx.items new.tx.items p.tx lost.tx v.seated_tx in
    let n = one_less old.links.items new.links.items (p.input, p.output) lost.links in let m = one_less more.items made d pushed in
    let a = v.made in let b = v.few.0 in let e = v.few.1 in let capacity = c.push_reserved.ensures.capacity in
    let low : length new.links.items + length more.items ≤ length old.links.items + length made = omega (arith, n, m) in
    record {
      links = went ends_of old.links.items new.links.items made more.items d (p.input, p.output) lost.links pushed (ap (λ x. (x.engine.source, d.second.engine.sink)) is.0 ∙ ap (λ y. (p.input, y.engine.sink)) is.1) ∙ v.links;
      rx = went rx_of old.rx.items new.rx.items made more.items d p.rx lost.rx pushed (ap (λ x. (x.seat, x.engine.pass)) is.0) ∙ v.rx;
      tx = went tx_of old.tx.items new.tx.items made more.items d p.tx lost.tx pushed (ap (λ x. (x.seat, x.engine.pass)) is.1) ∙ v.tx;
      new = all_and_one IsLinkNew made more.items d pushed v.new (ap (λ x. x.engine.served) is.0, ap (λ x. x.engine.finished) is.0, ap (λ x. x.engine.served) is.1, ap (λ x. x.engine.finished) is.1);
      spent = all_and_one IsLinkSpent made more.items d pushed v.spent (
        record { all = ap (λ x. length x.seat.fetched) is.0 ∙ ap length (rx.0 c.rx.result.now).fresh.1 ∙ sym (ap (λ x. length x.engine.served) is.0); over = inr (ap (λ x. x.engine.served) is.0) },
        record { all = ap (λ x. length x.seat.fetched) is.1 ∙ ap length (tx.0 c.tx.result.now).fresh.1 ∙ sym (ap (λ x. length x.engine.served) is.1); over = inr (ap (λ x. x.engine.served) is.1) },
      );
      seated_rx = rx.1;
      seated_tx = tx.1;
      few = (omega (arith, n, b), omega (arith, n, e), v.few.2);
      even = c.in-Some.ensures.even;
      made = omega (arith, n, m, a, capacity);
      room = room_on (length old.links.items + length made) (length new.links.items + length more.items) old new low c.in-Some.ensures.room v.room;
      same = roomy_on _ old new v.same c.in-Some.ensures.room;
    }

pub returns-clause-new : goal.returns-clause-new
returns-clause-new g c = let empty : IsEmptyHome c.take.new.self = search rules in
    (subst (All IsLinkNew) (sym c.reverse.ensures.items) (all_reversed IsLinkNew c.loop-parts.made.items c.loop-parts.invariant.new), empty)
