use Rattle.std.proofs.Common.{[]}
use Rattle.demi_memq.proofs.chains.none_came.Given as goal

abbrev pub ghost-from : goal.ghost-from
ghost-from g a = []
