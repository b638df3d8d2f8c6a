use Rattle.demi_served.proofs.LogRuns.{log_ends, log_rose, log_text_is}
use Rattle.demi_served.proofs.logs.a_log_ends_as_its_history.Goals as goal

pub returns-clause-ends : goal.returns-clause-ends
returns-clause-ends g c = log_ends g.D.Disk.bytes g.D.Disk.held g.D.Disk.faults g.D.Disk.appends g.D.Disk.looks

pub returns-clause-text : goal.returns-clause-text
returns-clause-text g c = log_text_is

pub returns-clause-cause : goal.returns-clause-cause
returns-clause-cause g c = log_rose g.D.Disk.bytes g.D.Disk.held g.D.Disk.faults g.D.Disk.appends g.D.Disk.looks
