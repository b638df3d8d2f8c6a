use Rattle.std.proofs.Common.{◌≡◌, ap, sym, subst, IfSome, List, ℕ, Option}
use Rattle.std.specs.Prelude.{Ok}
use Rattle.demi_core.specs.World.{Log}
use Rattle.demi_logq.specs.Logged.{Logged}
use Rattle.demi_spec.specs.Record.{records}
use Rattle.demi_cli.specs.declared.outcome.Outcome.{Outcome}
use Rattle.demi_cli.specs.Ended.{Unopened}
use Rattle.demi_server.proofs.Opens.{at_moment, had_records, stands_still}
use Rattle.demi_cli.proofs.Opens.{not_made, not_opened}
use Rattle.demi_cli.proofs.opening.try_log.Goals as goal

pub returns-in-Ok-make-clause-had : goal.returns-in-Ok-make-clause-had
returns-in-Ok-make-clause-had g c =
    let d = g.D.Disk in
    let e = c.in-Ok.ensures in
    let s = c.in-Ok-make.ensures in (
      c.in-Ok-make.store.records,
      had_records (d.bytes c.args.disk) (d.bytes c.in-Ok.log.disk) (d.bytes c.in-Ok-make.store.log.disk) (d.held c.args.disk) (d.held c.in-Ok.log.disk) (d.faults c.args.disk)
          c.in-Ok.log.ends c.in-Ok-make.store.log.ends c.in-Ok-make.store.records (g.met.D.Disk.told_held c.args.disk) e.opened e.stands s.read s.count (ap (λ (l : Logged g.row.D.Denot). l.ends) s.log) s.holds,
      rw (c.disk.ensures, c.into_log.ensures) (subst (λ (b : Option (List ℕ)). IfSome b (λ t. records t ≡ Ok c.in-Ok-make.store.records)) (sym s.bytes) s.read),
    )

pub returns-in-Ok-make-clause-stands : goal.returns-in-Ok-make-clause-stands
returns-in-Ok-make-clause-stands g c =
    let d = g.D.Disk in
    let e = c.in-Ok.ensures in
    let s = c.in-Ok-make.ensures in
    rw (c.disk.ensures, c.into_log.ensures)
    (stands_still (d.bytes c.args.disk) (d.bytes c.in-Ok.log.disk) (d.bytes c.in-Ok-make.store.log.disk) (d.held c.args.disk) (d.held c.in-Ok.log.disk) (d.held c.in-Ok-make.store.log.disk) (d.faults c.args.disk)
    e.stands s.bytes s.held)

pub returns-in-Err-clause-refused : goal.returns-in-Err-clause-refused
returns-in-Err-clause-refused g c =
    let e = c.in-Err.ensures in
    let d = g.D.Disk in
    let kept : Log = at_moment (d.bytes c.in-Err.disk) (d.held c.in-Err.disk) (d.faults c.in-Err.disk) in
    subst (λ (o : Outcome). Unopened o (at_moment (d.bytes c.args.disk) (d.held c.args.disk) (d.faults c.args.disk)) kept) (sym c.refused.ensures)
    (not_made c.in-Err.refusal (d.bytes c.args.disk) (d.bytes c.in-Err.disk) (d.held c.args.disk) (d.held c.in-Err.disk) (d.faults c.args.disk) (d.faults c.in-Err.disk)
    e.bad e.place e.left e.other e.failed)

pub returns-in-Err-make-clause-refused : goal.returns-in-Err-make-clause-refused
returns-in-Err-make-clause-refused g c =
    let e = c.in-Ok.ensures in
    let s = c.in-Err-make.ensures in
    let d = g.D.Disk in
    let end = c.in-Err-make.log.disk in
    let kept : Log = at_moment (d.bytes end) (d.held end) (d.faults end) in
    let is : Unopened c.refused-in-Err-make.result (at_moment (d.bytes c.args.disk) (d.held c.args.disk) (d.faults c.args.disk)) kept =
    subst (λ (o : Outcome). Unopened o (at_moment (d.bytes c.args.disk) (d.held c.args.disk) (d.faults c.args.disk)) kept) (sym c.refused-in-Err-make.ensures)
    (not_opened c.in-Err-make.refusal (d.bytes c.args.disk) (d.bytes c.in-Ok.log.disk) (d.bytes end) (d.held c.args.disk) (d.held c.in-Ok.log.disk) (d.held end) (d.faults c.args.disk) (d.faults c.in-Ok.log.disk) (d.faults end)
    c.in-Ok.log.ends e.opened e.stands s.bytes s.held e.later s.bad s.place s.other s.failed) in
    rw c.disk-in-Err-make.ensures is
