use Rattle.demi_spec.proofs.ReplyReads.{replies_apart}
use Rattle.demi_spec.proofs.laws.no_reply_begins_another.Goals as goal

pub returns : goal.returns
returns c = replies_apart
