use Rattle.std.proofs.Common.{◌≡◌, ℕ, ◌<◌, length, take, get_or}
use Rattle.std.specs.Prelude.{sum}
use Rattle.demi_audit.specs.Turns.{count_of}
use Rattle.demi_audit.proofs.places.count_workers.Given as goal

abbrev pub invariant-counting : goal.invariant-counting
invariant-counting l = record {
  workers : length l.counts.items ≡ 256;
  each : (w : ℕ) → w < 256 → get_or l.counts.items w 0 ≡ count_of w (take l.reply-index l.heard);
  total : sum l.counts.items ≡ l.reply-index;
}
