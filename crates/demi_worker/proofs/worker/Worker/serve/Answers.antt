use Rattle.std.proofs.Common.{rules, subst}
use Rattle.demi_worker.specs.Standing.{SameLinks, held_links, taken_in}
use Rattle.demi_worker.proofs.Leaving.{leaves_within, new_beside}
use Rattle.demi_worker.proofs.Served.{all_kept, all_paid}
use Rattle.demi_worker.proofs.Standing.{none_held}
use Rattle.demi_worker.proofs.Turns.{went_on}
use Rattle.demi_worker.proofs.worker.Worker.serve.Goals as goal

pub returns-then-live-eq0-clause-none : goal.returns-then-live-eq0-clause-none
returns-then-live-eq0-clause-none g c = none_held c.collect_all.new.self.scheduler.held c.collect_all.ensures.none (search rules)

pub returns-then-live-eq0-clause-links : goal.returns-then-live-eq0-clause-links
returns-then-live-eq0-clause-links g c =
    let was = c.args.self.now in let mid = c.loop.self in let now = c.collect_all.new.self in
    let went = went_on g.C.Scanner.goes g.met.C.Scanner.goes_on was.context mid.context now.context was.scheduler mid.scheduler now.scheduler was.ended.items mid.ended.items now.ended.items c.loop.invariant.went c.collect_all.ensures.went in
    let none = none_held now.scheduler.held c.collect_all.ensures.none (search rules) in
    subst (λ hs. SameLinks (taken_in hs now.ended.items) (taken_in was.scheduler.held was.ended.items)) none went.links

pub returns-then-live-eq0-clause-front : goal.returns-then-live-eq0-clause-front
returns-then-live-eq0-clause-front g c =
    let was = c.args.self.now in let mid = c.loop.self in let now = c.collect_all.new.self in
    (went_on g.C.Scanner.goes g.met.C.Scanner.goes_on was.context mid.context now.context was.scheduler mid.scheduler now.scheduler was.ended.items mid.ended.items now.ended.items c.loop.invariant.went c.collect_all.ensures.went).front

pub returns-then-live-eq0-clause-kept : goal.returns-then-live-eq0-clause-kept
returns-then-live-eq0-clause-kept g c =
    let now = c.collect_all.new.self in let e = c.collect_all.ensures.stands in
    all_kept (g.C.Scanner.ports now.context) (g.C.Calls.sight now.context) now.ended.items e.served e.stopped

pub returns-then-live-eq0-clause-owes : goal.returns-then-live-eq0-clause-owes
returns-then-live-eq0-clause-owes g c =
    let now = c.collect_all.new.self in let e = c.collect_all.ensures.stands in
    all_paid (g.C.Scanner.ports now.context) (g.C.Calls.sight now.context) now.ended.items e.served e.stopped

pub returns-then-live-eq0-clause-goes : goal.returns-then-live-eq0-clause-goes
returns-then-live-eq0-clause-goes g c =
    let was = c.args.self.now in let mid = c.loop.self in let now = c.collect_all.new.self in
    (went_on g.C.Scanner.goes g.met.C.Scanner.goes_on was.context mid.context now.context was.scheduler mid.scheduler now.scheduler was.ended.items mid.ended.items now.ended.items c.loop.invariant.went c.collect_all.ensures.went).way

pub returns-then-live-eq0-clause-others : goal.returns-then-live-eq0-clause-others
returns-then-live-eq0-clause-others g c =
    let was = c.args.self.now in let mid = c.loop.self in let now = c.collect_all.new.self in
    let went = went_on g.C.Scanner.goes g.met.C.Scanner.goes_on was.context mid.context now.context was.scheduler mid.scheduler now.scheduler was.ended.items mid.ended.items now.ended.items c.loop.invariant.went c.collect_all.ensures.went in
    leaves_within g.C.Scanner.goes g.C.Calls.sight g.met.C.Calls.goes_beside (held_links was.scheduler.held) was.context now.context went.way

pub returns-then-live-eq0-clause-fresh : goal.returns-then-live-eq0-clause-fresh
returns-then-live-eq0-clause-fresh g c = λ link other new.
    let was = c.args.self.now in let mid = c.loop.self in let now = c.collect_all.new.self in let sight = g.C.Calls.sight in
    let went = went_on g.C.Scanner.goes g.met.C.Scanner.goes_on was.context mid.context now.context was.scheduler mid.scheduler now.scheduler was.ended.items mid.ended.items now.ended.items c.loop.invariant.went c.collect_all.ensures.went in
    let left = leaves_within g.C.Scanner.goes sight g.met.C.Calls.goes_beside (held_links was.scheduler.held) was.context now.context went.way link other in
    new_beside was.number link (sight was.context link) (sight now.context link) new left

pub loop-preserved : goal.loop-preserved
loop-preserved g c =
    let was = c.args.self.now in let mid = c.loop.self in let old = c.collect_all.new.self in let now = c.round.new.self in let e = c.round.ensures in
    let on = went_on g.C.Scanner.goes g.met.C.Scanner.goes_on in
    let went = on was.context mid.context old.context was.scheduler mid.scheduler old.scheduler was.ended.items mid.ended.items old.ended.items c.loop.invariant.went c.collect_all.ensures.went in
    record {
      stands = e.stands;
      went = on was.context old.context now.context was.scheduler old.scheduler now.scheduler was.ended.items old.ended.items now.ended.items went e.went;
      number = search rules;
    }
