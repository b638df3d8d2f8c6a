use Rattle.std.proofs.Common.{arith}
use Rattle.demi_roster.proofs.HiringSteps.{all_parted, one_parted}
use Rattle.demi_roster.proofs.hiring.part_all.Goals as goal

pub loop-preserved : goal.loop-preserved
loop-preserved c =
    let l = c.loop in let v = l.invariant in let p = c.push_reserved in let q = c.push_reserved-in-loop in let a = p.ensures.capacity in let b = q.ensures.capacity in let m = v.1 in let n = v.2 in (
      one_parted c.args.crew.items l.counter l.crew.items c.part_next-caller.new.crew.items l.callers.items p.new.self.items l.ended.items q.new.self.items c.part_next-caller.result.0 c.part_next-caller.result.1
          v.0 c.part_next-caller.ensures p.ensures.items q.ensures.items,
      omega (arith, a, m),
      omega (arith, b, n),
    )

pub returns : goal.returns
returns c = (all_parted c.args.crew.items c.loop.counter c.loop.crew.items c.loop.callers.items c.loop.ended.items c.loop.invariant.0 (let t = c.loop-test.false in let e = c.len-end.ensures in omega (arith, t, e))).1
