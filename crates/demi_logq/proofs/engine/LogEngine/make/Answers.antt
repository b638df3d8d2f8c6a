use Rattle.std.proofs.Common.{sym, subst, arith, refl}
use Rattle.std.specs.Prelude.{None}
use Rattle.demi_logq.specs.Logged.{Holds}
use Rattle.demi_logq.specs.Engine.{IsServed, PastValue, payloads_in, stands_now}
use Rattle.demi_logq.specs.Queues.{Shows}
use Rattle.demi_logq.proofs.Stopping.{payloads_hold}
use Rattle.demi_logq.proofs.engine.LogEngine.make.Goals as goal

pub invariant_of-result : goal.invariant_of-result
invariant_of-result g c =
    let log = c.args.log in let s = c.count-entries.ensures.stands c.requires.sound.1 in
    let holds : Holds (g.D.Disk.bytes log.disk) log.ends (payloads_in (g.D.Disk.bytes log.disk) log.ends) = payloads_hold (g.D.Disk.bytes log.disk) (g.D.Disk.held log.disk) log.ends s.payloads s.holds (g.met.D.Disk.told_held log.disk) (s.whole c.requires.sound.0) in
    subst (λ (v : PastValue). IsServed v.served v.finished × Shows {D = g.row.D.Denot} (g.D.Disk.bytes log.disk) log c.args.heap.now c.args.pass v.base (stands_now v) 0 None None) (sym c.no_past-past.ensures) (
      record { order = tt; count = refl },
      record {
        limit = refl;
        staged = c.requires.staged;
        pass_is = c.requires.heap;
        heap_is = refl;
        cursor_is = refl;
        fault_is = refl;
        stop_is = refl;
        within = omega arith;
        whole = λ e. record { torn = c.requires.sound.0; lost = c.requires.sound.1; told_is = refl; holds = holds };
      },
    )

pub returns-clause-payloads : goal.returns-clause-payloads
returns-clause-payloads g c =
    let log = c.args.log in let s = c.count-entries.ensures.stands c.requires.sound.1 in
    subst (λ (v : PastValue). Holds (g.D.Disk.bytes log.disk) log.ends v.base.payloads) (sym c.no_past-past.ensures)
    (payloads_hold (g.D.Disk.bytes log.disk) (g.D.Disk.held log.disk) log.ends s.payloads s.holds (g.met.D.Disk.told_held log.disk) (s.whole c.requires.sound.0))
