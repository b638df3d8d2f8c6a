use Rattle.demi_context.proofs.context.notes.of_link.Given as goal

abbrev pub ghost-from : goal.ghost-from
ghost-from a = record { ledger = a._first.now.value; link = a._second.now }
