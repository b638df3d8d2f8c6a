use Rattle.std.proofs.Common.{sym, subst}
use Rattle.demi_sga.specs.Arrays.{AreOf}
use Rattle.demi_sga.proofs.Lists.{append_of}
use Rattle.demi_sga.proofs.tests.pair.Goals as goal

pub returns : goal.returns
returns g c = let h = c.args.heap.now in subst (AreOf h) (sym c.joined.ensures.0) (append_of h _ _ c.requires.0 c.requires.1)
