use Rattle.std.proofs.Common.{List, ℕ, subst}
use Rattle.std.specs.Prelude.{IfOk, IfErr}
use Rattle.demi_audit.specs.declared.checking.CheckEnd.{CheckEnd}
use Rattle.demi_cli.specs.declared.outcome.Outcome.{Outcome}
use Rattle.demi_cli.specs.Checking.{Consistent, Judged}
use Rattle.demi_core.specs.World.{Log}
use Rattle.demi_server.specs.Logs.{log_at}
use Rattle.demi_cli.proofs.Checked.{audited_bad, audited_good, refuted_unread}
use Rattle.demi_cli.proofs.checking.audit_disk.Goals as goal

pub returns-in-Ok-clause-consistent : goal.returns-in-Ok-clause-consistent
returns-in-Ok-clause-consistent g c = audited_good c.audit.result c.in-Ok.text.items (g.D.Disk.bytes c.args.disk) c.in-Ok.ensures.read (subst (λ (t : List ℕ). IfOk c.audit.result (λ (e : CheckEnd). Consistent e.links e.replies e.records t)) c.deref.ensures.value c.audit.ensures.consistent)

pub returns-in-Ok-clause-refused : goal.returns-in-Ok-clause-refused
returns-in-Ok-clause-refused g c =
    let log : Log = log_at g.D.Disk.bytes g.D.Disk.held g.D.Disk.faults c.args.disk in
    let kept : Log = log_at g.D.Disk.bytes g.D.Disk.held g.D.Disk.faults c.read_all.new.disk in
    audited_bad c.audit.result c.in-Ok.text.items log kept c.in-Ok.ensures.read (subst (λ (t : List ℕ). IfErr c.audit.result (λ (o : Outcome). Judged o t)) c.deref.ensures.value c.audit.ensures.refused)

pub returns-in-Err-clause-refused : goal.returns-in-Err-clause-refused
returns-in-Err-clause-refused g c =
    let log : Log = log_at g.D.Disk.bytes g.D.Disk.held g.D.Disk.faults c.args.disk in
    let kept : Log = log_at g.D.Disk.bytes g.D.Disk.held g.D.Disk.faults c.read_all.new.disk in
    refuted_unread c.in-Err.outcome log kept c.in-Err.ensures.refused
