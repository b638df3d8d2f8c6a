use Rattle.demi_bench.proofs.memq_loop.port_on.Given as goal

abbrev pub ghosts-port_at : goal.ghosts-port_at
ghosts-port_at a = record { base = a.heap.now }
