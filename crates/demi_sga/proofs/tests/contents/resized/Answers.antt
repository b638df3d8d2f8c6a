use Rattle.demi_sga.proofs.tests.contents.resized.Goals as goal

pub returns : goal.returns
returns g c = c.set_len.ensures.heap c.args.heap.now c.requires.0
