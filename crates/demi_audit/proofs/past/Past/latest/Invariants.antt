use Rattle.std.proofs.Common.{List, length, ◌≤◌}
use Rattle.demi_spec.specs.Record.{Record}
use Rattle.demi_audit.specs.Past.{PastOf}
use Rattle.demi_audit.proofs.Pasts.{WalksTo}
use Rattle.demi_audit.proofs.past.Past.latest.Given as goal

abbrev pub invariant-back : goal.invariant-back
invariant-back l = (rs : List Record) → PastOf l.self rs → l.version ≤ length rs → WalksTo rs l.key l.version l.at

abbrev pub decreases-back : goal.decreases-back
decreases-back l = l.at
