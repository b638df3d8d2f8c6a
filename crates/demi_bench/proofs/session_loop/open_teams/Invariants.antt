use Rattle.std.proofs.Common.{◌≡◌, ◌++◌, ◌+◌, ◌≤◌, length, reverse, vec_capacity, vec_len}
use Rattle.demi_bench.proofs.session_loop.open_teams.Given as goal

abbrev pub invariant-loop-pass : goal.invariant-loop-pass
invariant-loop-pass l = record {
  all : l.initial.passes.items ≡ l.passes.items ++ reverse l.teams.items;
  few : vec_len l.passes + vec_len l.teams ≤ length l.initial.passes.items;
  room : (vec_capacity l.passes ≡ vec_capacity l.initial.passes) × (vec_capacity l.teams ≡ vec_capacity l.initial.teams);
}

abbrev pub decreases-loop-pass : goal.decreases-loop-pass
decreases-loop-pass l = vec_len l.passes
