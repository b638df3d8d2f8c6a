use Rattle.std.proofs.Common.{◌≡◌, ◌+◌, length, take}
use Rattle.std.specs.Prelude.{sum}
use Rattle.demi_audit.specs.Turns.{AreStarts}
use Rattle.demi_audit.proofs.places.find_starts.Given as goal

abbrev pub invariant-placing : goal.invariant-placing
invariant-placing l = record {
  starts : AreStarts l.counts l.starts.items;
  count : length l.starts.items ≡ l.count-index;
  next : l.next ≡ l.count-index + sum (take l.count-index l.counts);
}
