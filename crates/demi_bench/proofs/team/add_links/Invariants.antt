use Rattle.std.proofs.Common.{◌≡◌, ℕ, vec_capacity, vec_len}
use Rattle.demi_bench.specs.Linking.{ArePaired, AreIdle, IsLineOf, IsPairOf}
use Rattle.demi_bench.proofs.team.add_links.Given as goal

abbrev pub invariant-loop : goal.invariant-loop
invariant-loop l = record {
  filled : (vec_len l.wires ≡ l.counter) × (vec_len l.lines ≡ l.counter) × (vec_len l.pairs ≡ l.counter);
  room : (vec_capacity l.wires ≡ l.count) × (vec_capacity l.lines ≡ l.count) × (vec_capacity l.pairs ≡ l.count);
  lines : (n : ℕ) → ArePaired (IsLineOf n) l.wires.items l.lines.items;
  idle : AreIdle l.lines.items;
  pairs : ArePaired IsPairOf l.wires.items l.pairs.items;
}
