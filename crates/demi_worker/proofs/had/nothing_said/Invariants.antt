use Rattle.demi_link.specs.Talks.{new_talk}
use Rattle.demi_worker.proofs.had.nothing_said.Given as goal

abbrev pub ghost-from : goal.ghost-from
ghost-from a = new_talk a._first.now
