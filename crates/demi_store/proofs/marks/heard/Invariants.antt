use Rattle.std.proofs.Common.{[], ◌∷◌, ◌++◌}
use Rattle.demi_store.proofs.marks.heard.Given as goal

abbrev pub ghost-from : goal.ghost-from
ghost-from a = record (a._first.now.value) { served = a._first.now.value.served ++ a._second.now ∷ [] }
