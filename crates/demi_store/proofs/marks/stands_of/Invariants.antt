use Rattle.demi_store.specs.Engine.{stood}
use Rattle.demi_store.proofs.marks.stands_of.Given as goal

abbrev pub ghost-from : goal.ghost-from
ghost-from a = stood a._first.now.value.base a._first.now.value.served a._first.now.value.finished
