use Rattle.demi_link.specs.Noting.{after_found}
use Rattle.demi_link.proofs.notes.one_handed.Given as goal

abbrev pub ghost-from : goal.ghost-from
ghost-from a = after_found a._first.now.value a._second.now.last
