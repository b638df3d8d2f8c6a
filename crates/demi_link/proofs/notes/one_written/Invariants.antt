use Rattle.std.proofs.Common.{◌++◌, ◌∷◌, []}
use Rattle.demi_link.proofs.notes.one_written.Given as goal

abbrev pub ghost-from : goal.ghost-from
ghost-from a = record a._first.now.value { written = a._first.now.value.written ++ a._second.now.0 ∷ [] }
