use Rattle.std.proofs.Common.{[]}
use Rattle.demi_context.proofs.context.notes.nothing_seen.Given as goal

abbrev pub ghost-from : goal.ghost-from
ghost-from a = []
