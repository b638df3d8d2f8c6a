use Rattle.std.proofs.Common.{[]}
use Rattle.demi_context.proofs.context.notes.asked_for.Given as goal

abbrev pub ghost-from : goal.ghost-from
ghost-from a = record { port = a._first.now; mask = a._second.now; bits = record { words = [] } }
