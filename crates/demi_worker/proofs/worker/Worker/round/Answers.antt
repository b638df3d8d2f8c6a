use Rattle.std.proofs.Common.{◌∙◌, ap, subst, sym}
use Rattle.demi_sched.specs.Holding.{SchedulerValue}
use Rattle.demi_sched.proofs.Names.{within_on, within_round}
use Rattle.demi_link.specs.Linked.{LinkValue}
use Rattle.demi_worker.specs.Standing.{held_links}
use Rattle.demi_worker.specs.Turns.{WentOn}
use Rattle.demi_worker.proofs.Leaving.{leaves_all, leaves_within}
use Rattle.demi_worker.proofs.Links.{link_of}
use Rattle.demi_worker.proofs.Standing.{stands_as, stands_beside, stands_fits, stands_polled}
use Rattle.demi_worker.proofs.Turns.{went_round}
use Rattle.demi_worker.proofs.Ways.{by_all}
use Rattle.demi_worker.proofs.worker.Worker.round.Goals as goal

pub returns-clause-stands : goal.returns-clause-stands
returns-clause-stands g c =
    let was = c.args.self.now in let r = c.round-round in let e = r.ensures in let now = c.rest.new.self in let f = c.rest.ensures in
    let goes = g.C.Scanner.goes in let sight = g.C.Calls.sight in let ports = g.C.Scanner.ports in let beside = g.met.C.Calls.goes_beside in
    let held = was.scheduler.held in let es = was.ended.items in
    let way = within_round goes link_of (g.C.Scanner.seen r.new.cx) held was.context r.new.cx e.goes in
    let others = leaves_within goes sight beside (held_links held) was.context r.new.cx way in
    let polled = stands_polled (ports was.context) (sight was.context) (sight r.new.cx) was.scheduler r.new.self es others e.same e.names
    (stands_fits (ports was.context) (ports r.new.cx) (sight r.new.cx) r.new.self.held e.ports e.fits) c.requires in
    let rested = stands_beside (ports was.context) (sight r.new.cx) (sight now.context) r.new.self es (leaves_all goes sight beside r.new.cx now.context f.goes) polled in
    stands_as (ports was.context) (ports now.context) (sight now.context) r.new.self now.scheduler es now.ended.items
    (g.met.C.Scanner.goes_ports 0 r.new.cx now.context (f.goes 0) ∙ e.ports) f.scheduler (ap (λ v. v.items) f.ended) rested

pub returns-clause-went : goal.returns-clause-went
returns-clause-went g c =
    let was = c.args.self.now in let r = c.round-round in let e = r.ensures in let now = c.rest.new.self in let f = c.rest.ensures in
    let goes = g.C.Scanner.goes in let held = was.scheduler.held in let names = held_links held in
    let way = within_on goes g.met.C.Scanner.goes_on names was.context r.new.cx now.context
    (within_round goes link_of (g.C.Scanner.seen r.new.cx) held was.context r.new.cx e.goes)
    (by_all goes names r.new.cx now.context f.goes) in
    subst (λ (s : SchedulerValue LinkValue). WentOn goes was.context now.context was.scheduler s was.ended.items now.ended.items) (sym f.scheduler)
    (went_round goes was.context now.context was.scheduler r.new.self was.ended.items now.ended.items e.names e.same (ap (λ v. v.items) f.ended) way)
