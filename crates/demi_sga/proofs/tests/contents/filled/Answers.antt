use Rattle.demi_sga.proofs.Lists.{written_of}
use Rattle.demi_sga.proofs.tests.contents.filled.Goals as goal

pub returns : goal.returns
returns g c = written_of c.args.heap.now c.args.i c.args.sga c.fill.new.bytes c.requires
