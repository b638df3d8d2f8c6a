use Rattle.demi_copy.proofs.ports.sending_port.Given as goal

abbrev pub ghosts-sending_at : goal.ghosts-sending_at
ghosts-sending_at a = record { base = a.heap.now }
