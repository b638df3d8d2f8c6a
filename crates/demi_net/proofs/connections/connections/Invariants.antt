use Rattle.std.proofs.Common.{◌≡◌, ◌≤◌, map, replicate, vec_capacity, vec_len}
use Rattle.demi_net.specs.Links.{link_of}
use Rattle.demi_net.specs.Real.{real_link}
use Rattle.demi_net.proofs.connections.connections.Given as goal

abbrev pub invariant-taking : goal.invariant-taking
invariant-taking l = record {
  count : vec_len l.links ≡ l._number;
  room : l.n ≤ vec_capacity l.links;
  fresh : map link_of l.links.items ≡ replicate l._number (real_link 0 0 0);
}
