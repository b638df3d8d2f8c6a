use Rattle.demi_audit.proofs.Checks.{ok_whole, only_memory}
use Rattle.demi_audit.proofs.checking.check.Goals as goal

pub returns-in-Ok-clause-whole : goal.returns-in-Ok-clause-whole
returns-in-Ok-clause-whole c = λ run read ok. ok_whole c.args.transcript.now run c.check_read.result read c.check_read.ensures.consistent ok

pub returns-in-Ok-clause-only : goal.returns-in-Ok-clause-only
returns-in-Ok-clause-only c = λ run read whole. only_memory c.args.transcript.now run c.check_read.result read c.check_read.ensures.refused whole
