use Rattle.demi_context.specs.ContextLedgers.{after_push}
use Rattle.demi_context.proofs.context.notes.pushed.Given as goal

abbrev pub ghost-from : goal.ghost-from
ghost-from a = after_push a._first.now.value a._second.now
