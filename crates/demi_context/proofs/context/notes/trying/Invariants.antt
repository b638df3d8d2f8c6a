use Rattle.demi_context.proofs.context.notes.trying.Given as goal

abbrev pub ghost-from : goal.ghost-from
ghost-from a = record { entry = a._first.now.value; token = a._second.now }
