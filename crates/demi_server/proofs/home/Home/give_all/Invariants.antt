use Rattle.std.proofs.Common.{◌≡◌, ◌+◌, ◌++◌, All, length, map, reverse}
use Rattle.demi_server.specs.Building.{HasRoom, IsAsRoomy, IsEven, IsLinkSpent, ends_of, rx_of, tx_of}
use Rattle.demi_server.proofs.home.Home.give_all.Given as goal

abbrev pub invariant-loop-stations : goal.invariant-loop-stations
invariant-loop-stations g l = record {
  links : l.self.links.items ++ map ends_of (reverse l.devices.items) ≡ l.initial.self.links.items ++ map ends_of (reverse l.initial.devices.items);
  rx : l.self.rx.items ++ map rx_of (reverse l.devices.items) ≡ l.initial.self.rx.items ++ map rx_of (reverse l.initial.devices.items);
  tx : l.self.tx.items ++ map tx_of (reverse l.devices.items) ≡ l.initial.self.tx.items ++ map tx_of (reverse l.initial.devices.items);
  spent : All IsLinkSpent l.devices.items;
  even : IsEven l.self;
  room : HasRoom (length l.self.links.items + length l.devices.items) l.self;
  same : IsAsRoomy l.initial.self l.self;
}

abbrev pub decreases-loop-stations : goal.decreases-loop-stations
decreases-loop-stations g l = length l.devices.items
