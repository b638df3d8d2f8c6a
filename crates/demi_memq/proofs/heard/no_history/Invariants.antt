use Rattle.std.proofs.Common.{[]}
use Rattle.demi_memq.proofs.heard.no_history.Given as goal

abbrev pub ghost-from : goal.ghost-from
ghost-from a = []
