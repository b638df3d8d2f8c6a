use Rattle.demi_pdpix.proofs.opening.sending_on.Given as goal

abbrev pub ghosts-sending_at : goal.ghosts-sending_at
ghosts-sending_at a = record { base = a.heap.now }
