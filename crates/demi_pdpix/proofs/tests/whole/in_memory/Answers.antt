use Rattle.std.proofs.Common.{arith}
use Rattle.demi_pdpix.proofs.tests.whole.in_memory.Goals as goal

pub make-requires-4-clause-most : goal.make-requires-4-clause-most
make-requires-4-clause-most g c = let long = c.in-Ok.ensures.len in let short = c.requires in omega (arith, long, short)
