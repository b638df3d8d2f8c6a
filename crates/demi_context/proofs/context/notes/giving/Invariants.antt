use Rattle.demi_context.specs.ContextLedgers.{after_giving}
use Rattle.demi_context.proofs.context.notes.giving.Given as goal

abbrev pub ghost-from : goal.ghost-from
ghost-from a = after_giving a._first.now.value a._second.now
