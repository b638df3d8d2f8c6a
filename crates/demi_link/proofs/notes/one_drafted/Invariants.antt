use Rattle.demi_link.specs.Fitting.{reply_as}
use Rattle.demi_link.proofs.notes.one_drafted.Given as goal

abbrev pub ghost-from : goal.ghost-from
ghost-from a = record a._first.now.value { reply = reply_as a._first.now.value.kept.worker a._second.now }
