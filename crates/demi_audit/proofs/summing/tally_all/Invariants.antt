use Rattle.std.proofs.Common.{◌+◌, ◌*◌, ◌^◌, ◌≤◌, map, take}
use Rattle.demi_audit.specs.Summary.{Tallies, requests_of_all}
use Rattle.demi_audit.proofs.summing.tally_all.Given as goal

abbrev pub invariant-summing : goal.invariant-summing
invariant-summing l = record {
  so : Tallies (requests_of_all (map (λ input. input.items) (take l.input-index l.inputs))) l.all;
  few : l.all.puts + l.all.gets + l.all.ends ≤ l.input-index * 2 ^ 34;
}
