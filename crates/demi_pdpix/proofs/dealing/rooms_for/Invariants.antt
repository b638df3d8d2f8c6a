use Rattle.std.proofs.Common.{◌≡◌, All, length, vec_capacity}
use Rattle.demi_pdpix.specs.Making.{IsRoom}
use Rattle.demi_pdpix.proofs.dealing.rooms_for.Given as goal

abbrev pub invariant-loop : goal.invariant-loop
invariant-loop l = record {
  many : length l.rooms.items ≡ l.counter;
  empty : All (IsRoom l.journals l.links) l.rooms.items;
  room : vec_capacity l.rooms ≡ l.callers;
}
