use Rattle.std.proofs.Common.{◌<◌, length, refl, arith, ◌∙◌, Some, subst}
use Rattle.std.specs.Prelude.{Err}
use Rattle.demi_logq.specs.Logged.{Logged}
use Rattle.demi_logq.specs.Calls.{Appended, Committed}
use Rattle.demi_store.proofs.Shelving.{counted, kept_on, stored, failed, torn_commit}
use Rattle.demi_store.proofs.shelf.Shelf.put.Goals as goal

pub returns-then-count-self-clause-put : goal.returns-then-count-self-clause-put
returns-then-count-self-clause-put g c = λ r fits text.
    let k = c.requires.kept in
    let count = counted _ _ c.args.records.now.value k.holds in
    (c.in_default.is, omega arith, c.count-count.ensures.count ∙ count, c.in_default.is, k, refl)

pub returns-in_default-ready-clause-put : goal.returns-in_default-ready-clause-put
returns-in_default-ready-clause-put g c = λ r fits text.
    let k = c.requires.kept in
    let count = counted _ _ c.args.records.now.value k.holds in
    let e = c.in_default-ready.ensures in (
      c.in_default.is,
      omega arith,
      e.fault ∙ c.in_default.is,
      kept_on g.D.Disk.bytes c.args.self.now.log c.ready.new.self.log c.args.self.now.log.staged c.args.self.now.index c.ready.new.self.index c.args.self.now.limit c.args.self.now.fault c.ready.new.self.fault c.args.records.now.value k e.log e.same e.fault,
      e.log,
    )

pub returns-in-Ok-commit-clause-put : goal.returns-in-Ok-commit-clause-put
returns-in-Ok-commit-clause-put g c = λ r fits text.
    let k = c.requires.kept in
    let count = counted _ _ c.args.records.now.value k.holds in
    let e = c.in-Ok.ensures in
    let done = subst (λ (l : Logged g.row.D.Denot). Appended g.D.Disk.bytes g.D.Disk.held g.D.Disk.appends l c.commit.new.self c.in-Ok-commit.entry) e.log c.in-Ok-commit.ensures.done in
    let s = stored g.D.Disk.bytes g.D.Disk.held g.D.Disk.faults g.D.Disk.appends c.args.self.now.log c.commit.new.self c.args.self.now.index c.ready.new.self.index c.set.new.self c.args.self.now.limit c.args.self.now.fault
    c.ready.new.self.fault c.args.records.now.value r c.in-Ok.key.items c.in-Ok-commit.entry k fits text c.in_default.is e.same e.key c.set.ensures done in
    (c.in_default.is, omega arith, omega (arith, c.count-count.ensures.count, count), e.fault ∙ c.in_default.is, s.0, s.1)

pub returns-in-Err-clause-put : goal.returns-in-Err-clause-put
returns-in-Err-clause-put g c = λ r fits text.
    let k = c.requires.kept in
    let count = counted _ _ c.args.records.now.value k.holds in
    let e = c.in-Ok.ensures in
    let done = subst (λ (l : Logged g.row.D.Denot). Committed g.D.Disk.bytes g.D.Disk.held g.D.Disk.faults g.D.Disk.appends l c.commit.new.self (Err c.in-Err.field-0)) e.log c.in-Err.ensures.done in
    let less : length c.args.self.now.log.ends < c.args.self.now.log.limit = omega (arith, k.limit_fits, c.count-count.ensures.count) in
    let torn = torn_commit g.D.Disk.bytes g.D.Disk.held g.D.Disk.faults g.D.Disk.appends c.args.self.now.log c.commit.new.self c.in-Err.field-0 done (k.whole c.in_default.is) k.kept less in
    let f = failed g.D.Disk.bytes g.D.Disk.held g.D.Disk.faults g.D.Disk.appends c.args.self.now.log c.commit.new.self c.args.self.now.index c.ready.new.self.index c.args.self.now.limit c.args.self.now.fault
    (Some c.args.place) c.args.place c.args.records.now.value r k text refl e.same torn in
    (c.in_default.is, omega arith, refl, f.0, f.1)
