use Rattle.demi_served.proofs.Ranges.{text_range, answer_range, records_range}
use Rattle.demi_served.proofs.ends.an_answer_is_in_range.Goals as goal

pub returns-clause-asks : goal.returns-clause-asks
returns-clause-asks c = text_range

pub returns-clause-answer : goal.returns-clause-answer
returns-clause-answer c = answer_range

pub returns-clause-records : goal.returns-clause-records
returns-clause-records c = records_range
