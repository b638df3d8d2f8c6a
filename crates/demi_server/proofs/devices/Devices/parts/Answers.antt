use Rattle.std.proofs.Common.{◌≡◌, ◌∙◌, All, length, ap, sym, subst}
use Rattle.demi_memq.specs.Said.{is_stop as stops_memory}
use Rattle.demi_server.specs.Building.{IsLinkSpent, IsSpent, ends_of, rx_of, tx_of}
use Rattle.demi_server.specs.Gathering.{Have}
use Rattle.demi_server.proofs.Gathered.{all_came}
use Rattle.demi_server.proofs.Homes.{all_reversed}
use Rattle.demi_server.proofs.devices.Devices.parts.Goals as goal

pub give_all-requires-clause-spent : goal.give_all-requires-clause-spent
give_all-requires-clause-spent g c =
    subst (All IsLinkSpent) (sym c.reverse.ensures.items) (all_reversed IsLinkSpent c.self.inside.links.items (subst (λ z. All IsLinkSpent z.links) (sym c.self.view_is) c.requires.links))

pub parts-store-requires-after_bounds : goal.parts-store-requires-after_bounds
parts-store-requires-after_bounds g c κs within = subst (λ z. length z.store.seat.fetched ≡ length z.store.engine.served) (sym c.self.view_is) c.requires.store.all

pub memory_parts-memory-requires : goal.memory_parts-memory-requires
memory_parts-memory-requires g c = subst (λ z. IsSpent stops_memory (λ e. e.served) z.memory) (sym c.self.view_is) c.requires.memory

pub returns-clause-parts : goal.returns-clause-parts
returns-clause-parts g c =
    let d = c.self.inside in let home = d.waiting.home in let new = c.give_all.new.self in let t = c.together.ensures in let empty = c.self.invariant.0 in
    let turned = c.reverse.new.self.items in let turns = c.reverse.ensures.items in let came = c.give_all.ensures.home in
    subst (λ z. Have z c.together.result) c.self.view_is (record {
      memory = t.others.0 ∙ c.memory_parts-memory.ensures.seat;
      store = t.store.0 ∙ c.parts-store.ensures.engine;
      service = t.store.1 ∙ ap (λ s. (s, d.waiting.service_pass)) c.parts-store.ensures.seat;
      journal = t.others.1;
      links = ap (λ v. v.items) t.links.0 ∙ all_came ends_of home.links.items new.links.items d.links.items turned empty.links turns came.links;
      rx = ap (λ v. v.items) t.links.1 ∙ all_came rx_of home.rx.items new.rx.items d.links.items turned empty.rx turns came.rx;
      tx = ap (λ v. v.items) t.links.2 ∙ all_came tx_of home.tx.items new.tx.items d.links.items turned empty.tx turns came.tx;
    })
