use Rattle.std.proofs.Common.{◌≡◌, ◌≤◌, All, length}
use Rattle.std.specs.Vec.{vec_capacity}
use Rattle.demi_crew.specs.Serving.{IsEmpty}
use Rattle.demi_roster.proofs.bench.benches_for.Given as goal

abbrev pub invariant-loop : goal.invariant-loop
invariant-loop l = All (IsEmpty l.fn.links l.fn.links) l.benches.items × (length l.benches.items ≡ l.counter) × (l.fn.workers ≤ vec_capacity l.benches)
