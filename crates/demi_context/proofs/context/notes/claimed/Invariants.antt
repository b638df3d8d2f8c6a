use Rattle.demi_context.specs.ContextLedgers.{after_claim}
use Rattle.demi_context.proofs.context.notes.claimed.Given as goal

abbrev pub ghost-from : goal.ghost-from
ghost-from a = after_claim a._first.now.value
