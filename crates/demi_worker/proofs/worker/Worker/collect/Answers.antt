use Rattle.std.proofs.Common.{◌≢◌, ◌∷◌, [], inl, refl, subst, sym}
use Rattle.demi_port_core.specs.History.{Among, Each}
use Rattle.demi_sched.specs.Holding.{SchedulerValue}
use Rattle.demi_link.specs.Linked.{LinkValue}
use Rattle.demi_worker.specs.Standing.{IsFit, held_links}
use Rattle.demi_worker.specs.Turns.{WentOn}
use Rattle.demi_worker.proofs.Leaving.{leaves_one}
use Rattle.demi_worker.proofs.Links.{out_among, out_each, out_within}
use Rattle.demi_worker.proofs.Standing.{ended_served, links_ended, stands_as, stands_ended}
use Rattle.demi_worker.proofs.Ways.{by_one}
use Rattle.demi_worker.proofs.worker.Worker.collect.Goals as goal

pub returns-clause-stands : goal.returns-clause-stands
returns-clause-stands g c =
    let was = c.args.self.now in let now = c.list.new.self in let left = c.collect.new.self in
    let one = c.in-Some in let k = one.link in let end = c.finish-end.result in let f = c.finish-end.ensures in let e = c.list.ensures in
    let sight = g.C.Calls.sight in let ports = g.C.Scanner.ports in
    let fit = (out_each was.scheduler.held left.held one._number k one.ensures.some (IsFit (ports was.context) (sight was.context)) c.requires.fits).0 in
    let served = ended_served (ports was.context) (sight was.context) k end.link end.cause end.talk.value f.link f.cause f.talk fit in
    let others = leaves_one g.C.Scanner.goes sight g.met.C.Calls.goes_beside end.link was.context now.context e.goes in
    let free = subst (λ m. Each (λ n. n ≢ m) (held_links left.held)) (sym f.link) one.ensures.name in
    let stands = stands_ended (ports was.context) (sight was.context) (sight now.context) was.ended.items now.ended.items end.link end.cause end.talk.value e.listed e.stopped others served
    was.scheduler left one._number k (sym f.link) one.ensures.some one.ensures.same free c.requires in
    stands_as (ports was.context) (ports now.context) (sight now.context) left now.scheduler now.ended.items now.ended.items
    (g.met.C.Scanner.goes_ports end.link was.context now.context e.goes) e.scheduler refl stands

pub returns-clause-went : goal.returns-clause-went
returns-clause-went g c =
    let was = c.args.self.now in let now = c.list.new.self in let left = c.collect.new.self in
    let one = c.in-Some in let k = one.link in let end = c.finish-end.result in let f = c.finish-end.ensures in let e = c.list.ensures in
    let goes = g.C.Scanner.goes in let names = held_links was.scheduler.held in
    let here = (out_among was.scheduler.held left.held one._number k one.ensures.some k.desk.link).1 (inl refl) in
    subst (λ (s : SchedulerValue LinkValue). WentOn goes was.context now.context was.scheduler s was.ended.items now.ended.items) (sym e.scheduler) (record {
      within = out_within was.scheduler.held left.held one._number k one.ensures.some;
      links = links_ended was.ended.items now.ended.items end.link end.cause end.talk.value (g.C.Calls.sight was.context end.link) e.listed was.scheduler left one._number k (sym f.link) one.ensures.some;
      front = (e.listed.last ∷ [], e.listed.all);
      same = one.ensures.same;
      way = by_one goes g.met.C.Scanner.goes_self names end.link was.context now.context (subst (λ n. Among n names) (sym f.link) here) e.goes;
    })
