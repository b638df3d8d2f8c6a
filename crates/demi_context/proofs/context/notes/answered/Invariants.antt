use Rattle.demi_context.proofs.context.notes.answered.Given as goal

abbrev pub ghost-from : goal.ghost-from
ghost-from a = record a._first.now.value { bits = a._second.now }
