use Rattle.std.proofs.Common.{vec_len}
use Rattle.demi_bench.specs.Linking.{ArePaired, IsPairOf, IsStill}
use Rattle.demi_bench.proofs.team.close_links.Given as goal

abbrev pub invariant-closing : goal.invariant-closing
invariant-closing l = record {
  lines : ArePaired IsStill l.wires.items l.lines.items;
  pairs : ArePaired IsPairOf l.wires.items l.pairs.items;
}

abbrev pub decreases-closing : goal.decreases-closing
decreases-closing l = vec_len l.wires
