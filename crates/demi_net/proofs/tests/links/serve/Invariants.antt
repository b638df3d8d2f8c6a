use Rattle.std.proofs.Common.{ℕ, ◌<◌, IsTrue, vec_len}
use Rattle.demi_net.proofs.tests.links.serve.Given as goal

abbrev pub invariant-serving : goal.invariant-serving
invariant-serving g l = record {
  few : vec_len l.links < 256;
  given : (number : ℕ) → number < vec_len l.links → IsTrue ((g.W.World.state l.world).owes_link number);
}

abbrev pub decreases-serving : goal.decreases-serving
decreases-serving g l = vec_len l.links
