use Rattle.std.proofs.Common.{◌+◌, ◌*◌, ◌≤◌, length}
use Rattle.demi_audit.specs.Inputs.{IsReader, left}
use Rattle.demi_audit.specs.Summary.{CountedTo}
use Rattle.demi_audit.proofs.summing.count_requests.Given as goal

abbrev pub invariant-tallying : goal.invariant-tallying
invariant-tallying l = record {
  so : CountedTo l.input (left l.reader) l.tally;
  reader : IsReader l.reader;
  fits : 6 * (l.tally.puts + l.tally.gets + l.tally.ends) + length (left l.reader) ≤ length l.input;
}

abbrev pub decreases-tallying : goal.decreases-tallying
decreases-tallying l = length (left l.reader)
