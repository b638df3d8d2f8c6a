use Rattle.demi_copy.proofs.ports.receiving_port.Given as goal

abbrev pub ghosts-receiving_at : goal.ghosts-receiving_at
ghosts-receiving_at a = record { base = a.heap.now }
