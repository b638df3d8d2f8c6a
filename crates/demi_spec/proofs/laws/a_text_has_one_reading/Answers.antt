use Rattle.demi_spec.proofs.Fronts.{front_takes, front_again}
use Rattle.demi_spec.proofs.Parsing.{parsed, parse_parses, apart}
use Rattle.demi_spec.proofs.laws.a_text_has_one_reading.Goals as goal

pub returns-clause-found : goal.returns-clause-found
returns-clause-found c = parse_parses

pub returns-clause-only : goal.returns-clause-only
returns-clause-only c = parsed

pub returns-clause-spelled : goal.returns-clause-spelled
returns-clause-spelled c = front_takes

pub returns-clause-again : goal.returns-clause-again
returns-clause-again c = front_again

pub returns-clause-apart : goal.returns-clause-apart
returns-clause-apart c = apart
