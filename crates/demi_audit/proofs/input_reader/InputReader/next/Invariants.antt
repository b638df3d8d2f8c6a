use Rattle.std.proofs.Common.{◌≡◌, ◌-◌, length}
use Rattle.demi_audit.specs.Inputs.{IsReader, left}
use Rattle.demi_audit.proofs.input_reader.InputReader.next.Given as goal

abbrev pub invariant-feeding : goal.invariant-feeding
invariant-feeding l = record {
  reader : IsReader l.self;
  same : left l.self ≡ left l.fn.self;
  input : l.self.input.now ≡ l.fn.self.input.now;
}

abbrev pub decreases-feeding : goal.decreases-feeding
decreases-feeding l = length l.self.input.now - l.self.fed
