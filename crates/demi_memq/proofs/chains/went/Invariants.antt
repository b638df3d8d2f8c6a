use Rattle.demi_memq.specs.Rooms.{rest}
use Rattle.demi_memq.proofs.chains.went.Given as goal

abbrev pub ghost-from : goal.ghost-from
ghost-from g a = rest a._second.now a._first.now.value
