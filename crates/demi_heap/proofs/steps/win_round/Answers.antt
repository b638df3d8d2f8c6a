use Rattle.demi_heap.proofs.Looking.{round_looks}
use Rattle.demi_heap.proofs.steps.win_round.Goals as goal

pub returns-in-None-clause-looks : goal.returns-in-None-clause-looks
returns-in-None-clause-looks c = let start = c.requires.start in let more = c.win_one-in-None.ensures in
    let old = c.args.seat.now.me.0 in let mid = c.win_one.new.seat.me.0 in let new = c.win_one-in-None.new.seat.me.0 in
    round_looks old.clock mid.clock c.args.first c.args.start c.args.end old.missed mid.missed new.missed c.win_one-in-None.result _ _
    start.0 start.1 start.2 c.win_one.ensures.clock c.in-None.ensures.looks more.looks more.won
