use Rattle.std.proofs.Common.{◌≡◌, ◌+◌, ◌≤◌, ◌++◌, All, length, map, reverse, vec_capacity}
use Rattle.demi_server.specs.Building.{AreSeated, HasRoom, IsAsRoomy, IsEven, IsLinkNew, IsLinkSpent, ends_of, rx_of, tx_of}
use Rattle.demi_server.proofs.home.Home.stations.Given as goal

abbrev pub invariant-loop-parts : goal.invariant-loop-parts
invariant-loop-parts g l = record {
  links : l.self.links.items ++ map ends_of (reverse l.made.items) ≡ l.initial.self.links.items;
  rx : l.self.rx.items ++ map rx_of (reverse l.made.items) ≡ l.initial.self.rx.items;
  tx : l.self.tx.items ++ map tx_of (reverse l.made.items) ≡ l.initial.self.tx.items;
  new : All IsLinkNew l.made.items;
  spent : All IsLinkSpent l.made.items;
  seated_rx : AreSeated l.demi.heap l.demi.rx 64 l.self.rx.items;
  seated_tx : AreSeated l.demi.heap l.demi.tx 64 l.self.tx.items;
  few : (length l.self.links.items ≤ length l.demi.rx) × (length l.self.links.items ≤ length l.demi.tx) × (length l.demi.rx ≤ 16);
  even : IsEven l.self;
  made : length l.self.links.items + length l.made.items ≤ vec_capacity l.made;
  room : HasRoom (length l.self.links.items + length l.made.items) l.self;
  same : IsAsRoomy l.initial.self l.self;
}

abbrev pub decreases-loop-parts : goal.decreases-loop-parts
decreases-loop-parts g l = length l.self.links.items
