use Rattle.std.proofs.Common.{◌++◌, ◌∷◌, []}
use Rattle.demi_context.proofs.context.notes.one_seen.Given as goal

abbrev pub ghost-from : goal.ghost-from
ghost-from a = a._first.now.value ++ a._second.now.value ∷ []
