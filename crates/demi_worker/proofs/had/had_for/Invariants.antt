use Rattle.demi_worker.proofs.had.had_for.Given as goal

abbrev pub ghost-from : goal.ghost-from
ghost-from g a = g.C.Calls.sight a._first.now a._second.now
