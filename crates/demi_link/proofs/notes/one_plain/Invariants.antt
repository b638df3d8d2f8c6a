use Rattle.demi_served.specs.Asking.{plain_answer}
use Rattle.demi_served.specs.Steps.{after_drawn}
use Rattle.demi_link.proofs.notes.one_plain.Given as goal

abbrev pub ghost-from : goal.ghost-from
ghost-from a = record a._first.now.value { kept = after_drawn a._first.now.value.kept a._first.now.value.request; reply = record { worker = a._first.now.value.kept.worker; sequence = a._second.now; answer = plain_answer a._first.now.value.request } }
