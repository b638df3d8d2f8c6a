use Rattle.std.proofs.Common.{◌≡◌, ◌+◌, length, take}
use Rattle.demi_audit.specs.Turns.{IsTable, was_given}
use Rattle.demi_audit.proofs.Turning.{TurnsTo}
use Rattle.demi_audit.proofs.turns.find_turns.Given as goal

abbrev pub invariant-turns : goal.invariant-turns
invariant-turns l = record {
  given : IsTable l.places (was_given (take l.reply-index l.heard)) l.given.items;
  size : length l.given.items ≡ length l.heard + 256;
  turns : TurnsTo l.heard l.turns.items l.reply-index;
}
