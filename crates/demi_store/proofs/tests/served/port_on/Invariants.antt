use Rattle.demi_store.proofs.tests.served.port_on.Given as goal

abbrev pub ghosts-port_at : goal.ghosts-port_at
ghosts-port_at g a = record { base = a.engine.now.base }
