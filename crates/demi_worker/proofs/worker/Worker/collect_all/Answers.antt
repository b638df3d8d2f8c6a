use Rattle.std.proofs.Common.{rules}
use Rattle.demi_worker.proofs.Turns.{went_on}
use Rattle.demi_worker.proofs.worker.Worker.collect_all.Goals as goal

pub returns-then-not-collect-clause-went : goal.returns-then-not-collect-clause-went
returns-then-not-collect-clause-went g c =
    let was = c.args.self.now in let mid = c.loop.self in let now = c.collect.new.self in
    went_on g.C.Scanner.goes g.met.C.Scanner.goes_on was.context mid.context now.context was.scheduler mid.scheduler now.scheduler was.ended.items mid.ended.items now.ended.items c.loop.invariant.went c.collect.ensures.went

pub loop-preserved : goal.loop-preserved
loop-preserved g c =
    let was = c.args.self.now in let mid = c.loop.self in let now = c.collect.new.self in let e = c.collect.ensures in
    record {
      stands = e.stands;
      went = went_on g.C.Scanner.goes g.met.C.Scanner.goes_on was.context mid.context now.context was.scheduler mid.scheduler now.scheduler was.ended.items mid.ended.items now.ended.items c.loop.invariant.went e.went;
      number = search rules;
    }
