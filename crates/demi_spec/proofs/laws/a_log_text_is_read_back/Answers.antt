use Rattle.demi_spec.proofs.LogTexts.{entries_text, entries_bad}
use Rattle.demi_spec.proofs.Payloads.{records_again}
use Rattle.demi_spec.proofs.laws.a_log_text_is_read_back.Goals as goal

pub returns-clause-payloads : goal.returns-clause-payloads
returns-clause-payloads c = entries_text

pub returns-clause-recorded : goal.returns-clause-recorded
returns-clause-recorded c = records_again

pub returns-clause-bad : goal.returns-clause-bad
returns-clause-bad c = entries_bad
