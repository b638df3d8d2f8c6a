use Rattle.demi_context.specs.ContextLedgers.{after_free}
use Rattle.demi_context.proofs.context.notes.freed.Given as goal

abbrev pub ghost-from : goal.ghost-from
ghost-from a = after_free a._first.now.value a._second.now
