use Rattle.demi_context.specs.ContextLedgers.{after_pop}
use Rattle.demi_context.proofs.context.notes.popped.Given as goal

abbrev pub ghost-from : goal.ghost-from
ghost-from a = after_pop a._first.now.value a._second.now
