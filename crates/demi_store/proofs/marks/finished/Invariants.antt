use Rattle.std.proofs.Common.{◌++◌}
use Rattle.demi_store.proofs.marks.finished.Given as goal

abbrev pub ghost-from : goal.ghost-from
ghost-from a = record (a._first.now.value) { finished = a._first.now.value.finished ++ a._second.now.added }
