use Rattle.demi_streamq.proofs.tests.sending.joined.Goals as goal

pub returns : goal.returns
returns g c = (c.in-Ok.ensures.heap c.args.heap.now c.requires.1 c.requires.2, c.requires.0)
