use Rattle.std.proofs.Common.{◌+◌, ◌*◌, ◌≤◌, List, length}
use Rattle.demi_spec.specs.Record.{Record}
use Rattle.demi_audit.specs.Inputs.{IsReader, left}
use Rattle.demi_audit.specs.TextStores.{Keeps, SoFar}
use Rattle.demi_audit.proofs.one_link.serve.Given as goal

abbrev pub invariant-serving : goal.invariant-serving
invariant-serving l = record {
  so : (old : List Record) → Keeps l.fn.store old → SoFar old l.limit l.input (left l.reader) l.output.items l.store l.count;
  reader : IsReader l.reader;
  fits : 6 * l.count + length (left l.reader) ≤ length l.input;
}

abbrev pub decreases-serving : goal.decreases-serving
decreases-serving l = length (left l.reader)
