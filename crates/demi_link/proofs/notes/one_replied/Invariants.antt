use Rattle.demi_served.specs.Steps.{after_reply}
use Rattle.demi_link.proofs.notes.one_replied.Given as goal

abbrev pub ghost-from : goal.ghost-from
ghost-from a = record a._first.now.value { kept = after_reply a._first.now.value.kept a._first.now.value.reply }
