use Rattle.demi_worker.specs.Blank.{no_sight}
use Rattle.demi_worker.proofs.had.had_for_none.Given as goal

abbrev pub ghost-from : goal.ghost-from
ghost-from a = no_sight
