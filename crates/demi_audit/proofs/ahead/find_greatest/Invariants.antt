use Rattle.std.proofs.Common.{◌≡◌, ◌+◌, length, take}
use Rattle.demi_audit.specs.Turns.{IsTable, greatest_at}
use Rattle.demi_audit.proofs.ahead.find_greatest.Given as goal

abbrev pub invariant-raising : goal.invariant-raising
invariant-raising l = record {
  size : length l.greatest.items ≡ length l.heard + 256;
  table : IsTable l.places (λ w s. greatest_at w s (take l.reply-index l.heard)) l.greatest.items;
}
