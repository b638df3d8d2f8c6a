use Rattle.demi_store.proofs.marks.base_of.Given as goal

abbrev pub ghost-from : goal.ghost-from
ghost-from a = a._first.now.value.base
