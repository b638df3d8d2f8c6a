use Rattle.std.proofs.Common.{◌≡◌, ◌∙◌, subst}
use Rattle.demi_core.specs.World.{Log}
use Rattle.demi_core.specs.Outside.{Rose}
use Rattle.demi_cli.proofs.Lists.{keeps_one, listed_unread, on_read, on_unread}
use Rattle.demi_cli.proofs.tool.list.Goals as goal

pub returns-in-Err-clause-listed : goal.returns-in-Err-clause-listed
returns-in-Err-clause-listed g c =
    let d = g.W.Log.Disk in
    let disk = c.read_log-disk.result.0 in
    let log : Log = record { held = d.held c.in-Ok.disk; bytes = d.bytes c.in-Ok.disk; faults = d.faults c.in-Ok.disk } in
    let kept : Log = record { held = d.held disk; bytes = d.bytes disk; faults = d.faults disk } in
    let k = keeps_one _ _ _ c.args.name.now log kept c.in-Ok.ensures.given c.keep_log.ensures.kept c.read_log-disk.ensures.same in
    listed_unread c.in-Err.outcome _ _ c.args.name.now _ _ _ _ k (on_unread _ c.in-Err.outcome log kept c.in-Err.is c.read_log-disk.ensures.unread)

pub returns-in-Ok-say_heads-clause-listed : goal.returns-in-Ok-say_heads-clause-listed
returns-in-Ok-say_heads-clause-listed g c =
    let d = g.W.Log.Disk in
    let disk = c.read_log-disk.result.0 in
    let log : Log = record { held = d.held c.in-Ok.disk; bytes = d.bytes c.in-Ok.disk; faults = d.faults c.in-Ok.disk } in
    let kept : Log = record { held = d.held disk; bytes = d.bytes disk; faults = d.faults disk } in
    let k = keeps_one _ _ _ c.args.name.now log kept c.in-Ok.ensures.given c.keep_log.ensures.kept c.read_log-disk.ensures.same in
    let r = on_read _ c.in-Ok-read.heads log c.in-Ok-read.is c.read_log-disk.ensures.read in
    (g.W.World.state c.keep_log.new.self, record { keeps = k; records = r.0; had = r.1 }, c.in-Ok-say_heads.ensures.said r.0 r.2)

pub returns-clause-listed : goal.returns-clause-listed
returns-clause-listed g c =
    let d = g.W.Log.Disk in
    let disk = c.read_log-disk.result.0 in
    let log : Log = record { held = d.held c.in-Ok.disk; bytes = d.bytes c.in-Ok.disk; faults = d.faults c.in-Ok.disk } in
    let kept : Log = record { held = d.held disk; bytes = d.bytes disk; faults = d.faults disk } in
    let k = keeps_one _ _ _ c.args.name.now log kept c.in-Ok.ensures.given c.keep_log.ensures.kept c.read_log-disk.ensures.same in
    let r = on_read _ c.in-Ok-read.heads log c.in-Ok-read.is c.read_log-disk.ensures.read in
    let before : g.W.World.print_faults c.keep_log.new.self ≡ g.W.World.print_faults c.args.world.now = c.keep_log.ensures.print_faults ∙ c.log.ensures.print_faults in (
      g.W.World.state c.keep_log.new.self,
      record { keeps = k; records = r.0; had = r.1 },
      c.in-Err-say_heads.ensures.part r.0 r.2,
      subst (λ n. Rose n (g.W.World.print_faults c.say_heads.new.world)) before c.in-Err-say_heads.ensures.rose,
    )
