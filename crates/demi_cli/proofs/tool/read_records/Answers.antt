use Rattle.std.proofs.Common.{sym, subst, refl}
use Rattle.demi_core.specs.World.{Log}
use Rattle.demi_cli.specs.declared.outcome.Outcome.{Outcome}
use Rattle.demi_cli.specs.Listing.{Unread}
use Rattle.demi_server.proofs.Opens.{at_moment, had_records}
use Rattle.demi_cli.proofs.Opens.{not_made}
use Rattle.demi_cli.proofs.Lists.{unread}
use Rattle.demi_cli.proofs.tool.read_records.Goals as goal

pub returns-in-Err-clause-unread : goal.returns-in-Err-clause-unread
returns-in-Err-clause-unread g c =
    let e = c.in-Err.ensures in
    let d = g.D.Disk in
    let log : Log = at_moment (d.bytes c.args.disk) (d.held c.args.disk) (d.faults c.args.disk) in
    let kept : Log = at_moment (d.bytes c.in-Err.disk) (d.held c.in-Err.disk) (d.faults c.in-Err.disk) in
    subst (λ (o : Outcome). Unread o log kept) (sym c.refused.ensures)
    (unread _ log kept
    (not_made c.in-Err.refusal (d.bytes c.args.disk) (d.bytes c.in-Err.disk) (d.held c.args.disk) (d.held c.in-Err.disk) (d.faults c.args.disk) (d.faults c.in-Err.disk) e.bad e.place e.left e.other e.failed))

pub returns-in-Ok-read_heads-clause-read : goal.returns-in-Ok-read_heads-clause-read
returns-in-Ok-read_heads-clause-read g c =
    let e = c.in-Ok.ensures in
    let r = c.in-Ok-read_heads.ensures.read in (
      r.records,
      had_records (g.D.Disk.bytes c.args.disk) (g.D.Disk.bytes c.in-Ok.log.disk) (g.D.Disk.bytes c.in-Ok.log.disk) (g.D.Disk.held c.args.disk) (g.D.Disk.held c.in-Ok.log.disk) (g.D.Disk.faults c.args.disk)
          c.in-Ok.log.ends c.in-Ok.log.ends r.records (g.met.D.Disk.told_held c.args.disk) e.opened e.stands r.read r.count_is refl r.holds,
      r.heads_of,
    )
