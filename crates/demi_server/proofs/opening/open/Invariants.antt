use Rattle.demi_server.proofs.opening.open.Given as goal

abbrev pub ghosts-open_on : goal.ghosts-open_on
ghosts-open_on g a = record { base = a.store.base }
