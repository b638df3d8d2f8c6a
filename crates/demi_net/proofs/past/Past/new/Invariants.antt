use Rattle.std.proofs.Common.{[]}
use Rattle.demi_net.proofs.past.Past.new.Given as goal

abbrev pub ghost-of : goal.ghost-of
ghost-of a = []
