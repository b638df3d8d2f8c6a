use Rattle.demi_spec.proofs.LogReads.{entries_are, entries_refuse}
use Rattle.demi_spec.proofs.RecordReads.{records_are, records_refuse}
use Rattle.demi_spec.proofs.laws.a_log_text_has_one_reading.Goals as goal

pub returns-clause-entries : goal.returns-clause-entries
returns-clause-entries c = entries_are

pub returns-clause-bad : goal.returns-clause-bad
returns-clause-bad c = entries_refuse

pub returns-clause-records : goal.returns-clause-records
returns-clause-records c = records_are

pub returns-clause-bad_record : goal.returns-clause-bad_record
returns-clause-bad_record c = records_refuse
