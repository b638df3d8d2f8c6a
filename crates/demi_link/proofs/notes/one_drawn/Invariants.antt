use Rattle.demi_served.specs.Steps.{after_drawn}
use Rattle.demi_link.proofs.notes.one_drawn.Given as goal

abbrev pub ghost-from : goal.ghost-from
ghost-from a = record a._first.now.value { kept = after_drawn a._first.now.value.kept a._first.now.value.request }
