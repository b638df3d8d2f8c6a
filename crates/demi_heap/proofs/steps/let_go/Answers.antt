use Rattle.std.proofs.Common.{rules}
use Rattle.demi_heap.proofs.Allowed.{frees_lent_allowed}
use Rattle.demi_heap.proofs.steps.let_go.Goals as goal

pub fetch_and-requires : goal.fetch_and-requires
fetch_and-requires c = let half = c.requires.half in (search rules, search rules, frees_lent_allowed _ _ _ _ _ half.0 half.1 half.2)
