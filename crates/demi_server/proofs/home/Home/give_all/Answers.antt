use Rattle.std.proofs.Common.{rules, ◌≡◌, ◌∙◌, ◌+◌, ◌≤◌, [], length, ap, arith}
use Rattle.demi_server.specs.Building.{IsLinkSpent, ends_of, rx_of, tx_of}
use Rattle.demi_server.proofs.Homes.{all_but_last, all_home, came, one_less, room_on, roomy_on}
use Rattle.demi_server.proofs.home.Home.give_all.Goals as goal

pub link_parts-requires : goal.link_parts-requires
link_parts-requires g c = (all_but_last IsLinkSpent c.loop-stations.devices.items c.pop.new.self.items c.in-Some.stations c.in-Some.ensures.items c.loop-stations.invariant.spent).1

pub loop-stations-preserved : goal.loop-stations-preserved
loop-stations-preserved g c =
    let v = c.loop-stations.invariant in let popped = c.in-Some.ensures.items in let away = c.loop-stations.devices.items in let left = c.pop.new.self.items in let d = c.in-Some.stations in
    let old = c.loop-stations.self in let new = c.give.new.self in let p = c.link_parts.result in let is = c.link_parts.ensures in let h = c.give.ensures.home in
    let n = one_less away left d popped in let m = one_less new.links.items old.links.items (p.input, p.output) h.links in
    let low : length new.links.items + length left ≤ length old.links.items + length away = omega (arith, n, m) in
    record {
      links = came ends_of old.links.items new.links.items away left d (p.input, p.output) popped h.links (ap (λ q. (q.input, q.output)) is) ∙ v.links;
      rx = came rx_of old.rx.items new.rx.items away left d p.rx popped h.rx (ap (λ q. q.rx) is) ∙ v.rx;
      tx = came tx_of old.tx.items new.tx.items away left d p.tx popped h.tx (ap (λ q. q.tx) is) ∙ v.tx;
      spent = (all_but_last IsLinkSpent away left d popped v.spent).0;
      even = c.give.ensures.even;
      room = room_on (length old.links.items + length away) (length new.links.items + length left) old new low c.give.ensures.room v.room;
      same = roomy_on _ old new v.same c.give.ensures.room;
    }

pub returns-clause-home : goal.returns-clause-home
returns-clause-home g c =
    let v = c.loop-stations.invariant in let away = c.loop-stations.devices.items in let now = c.loop-stations.self in
    let none : away ≡ [] = search rules in
    record {
      links = all_home ends_of now.links.items _ away none v.links;
      rx = all_home rx_of now.rx.items _ away none v.rx;
      tx = all_home tx_of now.tx.items _ away none v.tx;
    }
