use Rattle.std.proofs.Common.{[]}
use Rattle.demi_streamq.proofs.tx_heard.no_outcomes.Given as goal

abbrev pub ghost-from : goal.ghost-from
ghost-from a = []
