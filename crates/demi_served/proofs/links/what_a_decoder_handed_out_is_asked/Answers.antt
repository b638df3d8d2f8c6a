use Rattle.demi_served.proofs.Decoded.{begins, at_end_frame, refused, finished}
use Rattle.demi_served.proofs.links.what_a_decoder_handed_out_is_asked.Goals as goal

pub returns-clause-begins : goal.returns-clause-begins
returns-clause-begins c = begins

pub returns-clause-at_end_frame : goal.returns-clause-at_end_frame
returns-clause-at_end_frame c = at_end_frame

pub returns-clause-refused : goal.returns-clause-refused
returns-clause-refused c = refused

pub returns-clause-finished : goal.returns-clause-finished
returns-clause-finished c = finished
