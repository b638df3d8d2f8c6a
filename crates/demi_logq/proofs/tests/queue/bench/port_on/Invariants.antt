use Rattle.demi_logq.proofs.tests.queue.bench.port_on.Given as goal

abbrev pub ghosts-port_at : goal.ghosts-port_at
ghosts-port_at g a = record { base = a.engine.now.base }
