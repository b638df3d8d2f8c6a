use Rattle.demi_context.specs.ContextLedgers.{after_ask_of}
use Rattle.demi_context.proofs.context.notes.asked.Given as goal

abbrev pub ghost-from : goal.ghost-from
ghost-from a = after_ask_of a._first.now.value a._second.now
