use Rattle.std.proofs.Common.{Some}
use Rattle.demi_spec.specs.Input.{Refused_end}
use Rattle.demi_link.proofs.notes.one_refused.Given as goal

abbrev pub ghost-from : goal.ghost-from
ghost-from a = record a._first.now.value { refused = Some a._second.now; request = Refused_end a._second.now }
