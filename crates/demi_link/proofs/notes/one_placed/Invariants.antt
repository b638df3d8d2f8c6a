-- the place
use Rattle.demi_link.proofs.notes.one_placed.Given as goal

abbrev pub ghost-from : goal.ghost-from
ghost-from a = record a._first.now.value { place = a._second.now.0 }
