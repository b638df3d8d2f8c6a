use Rattle.demi_context.specs.ContextLedgers.{after_draw_of}
use Rattle.demi_context.proofs.context.notes.drew.Given as goal

abbrev pub ghost-from : goal.ghost-from
ghost-from a = after_draw_of a._first.now.value a._second.now.value
