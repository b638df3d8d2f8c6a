use Rattle.demi_link.specs.Noting.{after_taken}
use Rattle.demi_link.proofs.notes.one_taken.Given as goal

abbrev pub ghost-from : goal.ghost-from
ghost-from a = after_taken a._first.now.value a._first.now.value.place a._second.now
