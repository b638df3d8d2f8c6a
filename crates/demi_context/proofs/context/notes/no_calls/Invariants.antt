use Rattle.demi_context.specs.ContextLedgers.{no_ledger}
use Rattle.demi_context.proofs.context.notes.no_calls.Given as goal

abbrev pub ghost-from : goal.ghost-from
ghost-from a = no_ledger
