use Rattle.demi_net.proofs.past.Past.told.Given as goal

abbrev pub ghost-of : goal.ghost-of
ghost-of g a = g.known
