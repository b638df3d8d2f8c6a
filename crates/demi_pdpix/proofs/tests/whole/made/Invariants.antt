use Rattle.std.specs.Prelude.{Some}
use Rattle.demi_core.specs.Fakes.{disk_seen}
use Rattle.demi_logq.specs.Answers.{no_log}
use Rattle.demi_logq.specs.Engine.{basis_of}
use Rattle.demi_pdpix.proofs.tests.whole.made.Given as goal

abbrev pub ghosts-made_on : goal.ghosts-made_on
ghosts-made_on g a = record { base = basis_of (λ d. Some (disk_seen d).bytes) a.log.now no_log.heap }
