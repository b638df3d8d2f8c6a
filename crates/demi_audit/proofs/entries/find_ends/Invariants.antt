use Rattle.std.proofs.Common.{◌-◌, ◌≤◌, Some, length}
use Rattle.demi_logq.specs.Logged.{Found}
use Rattle.demi_audit.proofs.entries.find_ends.Given as goal

abbrev pub invariant-finding : goal.invariant-finding
invariant-finding l = record {
  found : Found (Some l.text) (length l.text) l.ends.items l.at;
  within : l.at ≤ length l.text;
}

abbrev pub decreases-finding : goal.decreases-finding
decreases-finding l = length l.text - l.at
