use Rattle.demi_device.proofs.mark.Mark.from.Given as goal

abbrev pub ghost-of : goal.ghost-of
ghost-of g a = g.known
