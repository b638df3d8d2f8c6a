use Rattle.demi_link.specs.Events.{NumbersUsedUp}
use Rattle.demi_context.specs.ContextLedgers.{with_event}
use Rattle.demi_context.proofs.context.notes.used_up.Given as goal

abbrev pub ghost-from : goal.ghost-from
ghost-from a = with_event a._first.now.value NumbersUsedUp
