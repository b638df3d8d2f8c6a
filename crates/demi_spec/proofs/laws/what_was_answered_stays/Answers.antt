use Rattle.demi_spec.proofs.Serial.{serial-append}
use Rattle.demi_spec.proofs.laws.what_was_answered_stays.Goals as goal

pub returns-clause-replies : goal.returns-clause-replies
returns-clause-replies c = λ old limit asks more. let l = serial-append 0 old limit asks more in (l.replies, l.replies_are)

pub returns-clause-added : goal.returns-clause-added
returns-clause-added c = λ old limit asks more. let l = serial-append 0 old limit asks more in (l.added_records, l.records_are)
