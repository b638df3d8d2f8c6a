use Rattle.std.proofs.Common.{◌≡◌, ◌∙◌, subst}
use Rattle.demi_core.specs.World.{Log}
use Rattle.demi_core.specs.Outside.{Rose}
use Rattle.demi_cli.proofs.Lists.{keeps_one}
use Rattle.demi_cli.proofs.Checked.{checked_refuted, on_consistent, on_refuted}
use Rattle.demi_cli.proofs.checking.check_named.Goals as goal

pub returns-in-Err-clause-checked : goal.returns-in-Err-clause-checked
returns-in-Err-clause-checked g c =
    let d = g.W.Log.Disk in
    let disk = c.audit_disk-disk.result.0 in
    let log : Log = record { held = d.held c.in-Ok.disk; bytes = d.bytes c.in-Ok.disk; faults = d.faults c.in-Ok.disk } in
    let kept : Log = record { held = d.held disk; bytes = d.bytes disk; faults = d.faults disk } in
    let k = keeps_one _ _ _ c.args.name.now log kept c.in-Ok.ensures.given c.keep_log.ensures.kept c.audit_disk-disk.ensures.same in
    checked_refuted c.in-Err.outcome _ _ c.args.name.now _ _ _ _ k (on_refuted _ c.in-Err.outcome log kept c.in-Err.is c.audit_disk-disk.ensures.refused)

pub returns-in-Ok-say_verdict-clause-checked : goal.returns-in-Ok-say_verdict-clause-checked
returns-in-Ok-say_verdict-clause-checked g c =
    let d = g.W.Log.Disk in
    let disk = c.audit_disk-disk.result.0 in
    let log : Log = record { held = d.held c.in-Ok.disk; bytes = d.bytes c.in-Ok.disk; faults = d.faults c.in-Ok.disk } in
    let kept : Log = record { held = d.held disk; bytes = d.bytes disk; faults = d.faults disk } in
    let k = keeps_one _ _ _ c.args.name.now log kept c.in-Ok.ensures.given c.keep_log.ensures.kept c.audit_disk-disk.ensures.same in
    let end = c.in-Ok-verdict.end in
    let good = on_consistent _ end log.bytes c.in-Ok-verdict.is c.audit_disk-disk.ensures.consistent in
    (g.W.World.state c.keep_log.new.self, record { keeps = k; links = end.links; replies = end.replies; records = end.records; consistent = good }, c.in-Ok-say_verdict.ensures.said)

pub returns-in-Err-say_verdict-clause-checked : goal.returns-in-Err-say_verdict-clause-checked
returns-in-Err-say_verdict-clause-checked g c =
    let d = g.W.Log.Disk in
    let disk = c.audit_disk-disk.result.0 in
    let log : Log = record { held = d.held c.in-Ok.disk; bytes = d.bytes c.in-Ok.disk; faults = d.faults c.in-Ok.disk } in
    let kept : Log = record { held = d.held disk; bytes = d.bytes disk; faults = d.faults disk } in
    let k = keeps_one _ _ _ c.args.name.now log kept c.in-Ok.ensures.given c.keep_log.ensures.kept c.audit_disk-disk.ensures.same in
    let end = c.in-Ok-verdict.end in
    let good = on_consistent _ end log.bytes c.in-Ok-verdict.is c.audit_disk-disk.ensures.consistent in
    let before : g.W.World.print_faults c.keep_log.new.self ≡ g.W.World.print_faults c.args.world.now = c.keep_log.ensures.print_faults ∙ c.log.ensures.print_faults in (
      g.W.World.state c.keep_log.new.self,
      record { keeps = k; links = end.links; replies = end.replies; records = end.records; consistent = good },
      c.in-Err-say_verdict.ensures.part,
      subst (λ n. Rose n (g.W.World.print_faults c.say_verdict.new.world)) before c.in-Err-say_verdict.ensures.rose,
    )
