use Rattle.demi_pdpix.specs.Making.{log_on}
use Rattle.demi_pdpix.proofs.opening.journal_on.Given as goal

abbrev pub ghosts-journal_at : goal.ghosts-journal_at
ghosts-journal_at g a = record { base = log_on g.J.Basis.base a.heap.now }
