use Rattle.std.proofs.Common.{◌≡◌, ◌++◌, ◌+◌, ◌≤◌, length, reverse, vec_capacity, vec_len}
use Rattle.demi_bench.proofs.session_loop.close_teams.Given as goal

abbrev pub invariant-closing : goal.invariant-closing
invariant-closing l = record {
  all : l.initial.passes.items ++ reverse l.initial.teams.items ≡ l.passes.items ++ reverse l.teams.items;
  room : vec_len l.passes + vec_len l.teams ≤ vec_capacity l.passes;
}

abbrev pub decreases-closing : goal.decreases-closing
decreases-closing l = vec_len l.teams
