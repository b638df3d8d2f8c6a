use Rattle.std.proofs.Common.{◌≡◌, ◌-◌, ◌≤◌, take}
use Rattle.demi_sga.specs.Arrays.{byte_count}
use Rattle.demi_logq.specs.Folding.{bytes_of}
use Rattle.demi_logq.proofs.appending.stage_all.Given as goal

abbrev pub invariant-staging : goal.invariant-staging
invariant-staging g l = record {
  within : l.from ≤ byte_count l.sga;
  staged : l.log ≡ record (l.fn.log) { staged = take l.from (bytes_of l.sga) };
}

abbrev pub decreases-staging : goal.decreases-staging
decreases-staging g l = l.count - l.from
