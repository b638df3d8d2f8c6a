use Rattle.demi_context.specs.ContextLedgers.{after_tx_try}
use Rattle.demi_context.proofs.context.notes.tx_tried.Given as goal

abbrev pub ghost-from : goal.ghost-from
ghost-from a = after_tx_try a._first.now.value.entry a._first.now.value.token a._second.now
