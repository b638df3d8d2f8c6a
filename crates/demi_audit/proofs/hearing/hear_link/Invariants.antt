use Rattle.std.proofs.Common.{length, ◌-◌}
use Rattle.demi_audit.proofs.Hearings.{HeardUpTo}
use Rattle.demi_audit.proofs.hearing.hear_link.Given as goal

abbrev pub invariant-hearing : goal.invariant-hearing
invariant-hearing l = HeardUpTo l.text l.output l.fn.heard.items l.heard.items l.at

abbrev pub decreases-hearing : goal.decreases-hearing
decreases-hearing l = length l.output - l.at
