use Rattle.demi_sharing.proofs.New.{first_set_out, others_set_out}
use Rattle.demi_sharing.proofs.opening.open_queue.Goals as goal

pub ask_for_queue-token-requires : goal.ask_for_queue-token-requires
ask_for_queue-token-requires g c =
    let s = c.split_at_mut-front in
    (first_set_out c.args.demi.now c.args.callers.now s.result.0.now c.index-front-0.result c.requires.callers c.requires.there s.ensures.front).owes.0

pub all_learn-requires-clause-first : goal.all_learn-requires-clause-first
all_learn-requires-clause-first g c =
    let s = c.split_at_mut-front in
    c.ask_for_queue-token.ensures.asked 0 (first_set_out c.args.demi.now c.args.callers.now s.result.0.now c.index-front-0.result c.requires.callers c.requires.there s.ensures.front)

pub all_learn-requires-clause-others : goal.all_learn-requires-clause-others
all_learn-requires-clause-others g c =
    let s = c.split_at_mut-front in
    others_set_out c.args.demi.now c.args.callers.now s.result.1.now c.requires.callers c.requires.there s.ensures.back
