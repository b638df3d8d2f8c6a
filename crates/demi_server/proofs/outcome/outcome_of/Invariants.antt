use Rattle.std.proofs.Common.{◌≡◌, take}
use Rattle.demi_server.specs.Outcomes.{outcome_by}
use Rattle.demi_server.proofs.outcome.outcome_of.Given as goal

abbrev pub invariant-loop-k : goal.invariant-loop-k
invariant-loop-k l = l.outcome ≡ outcome_by (take l.k l.causes)
