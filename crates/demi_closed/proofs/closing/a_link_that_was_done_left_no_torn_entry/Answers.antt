use Rattle.demi_closed.proofs.NoneStruck.{none_struck}
use Rattle.demi_closed.proofs.closing.a_link_that_was_done_left_no_torn_entry.Goals as goal

pub returns : goal.returns
returns f = none_struck
