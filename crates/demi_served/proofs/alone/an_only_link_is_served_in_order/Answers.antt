use Rattle.demi_served.proofs.AsksAll.{first_all, drawn_all, asked_all, handed_all, stopped_all, stopped_again, handed_again}
use Rattle.demi_served.proofs.OnlyLink.{serial_replies, serial_all, serial_records, serial_more}
use Rattle.demi_served.proofs.Outputs.{output}
use Rattle.demi_served.proofs.alone.an_only_link_is_served_in_order.Goals as goal

pub returns-clause-first : goal.returns-clause-first
returns-clause-first c = first_all

pub returns-clause-drawn : goal.returns-clause-drawn
returns-clause-drawn c = drawn_all

pub returns-clause-asked : goal.returns-clause-asked
returns-clause-asked c = asked_all

pub returns-clause-handed : goal.returns-clause-handed
returns-clause-handed c = handed_all

pub returns-clause-stopped : goal.returns-clause-stopped
returns-clause-stopped c = stopped_all

pub returns-clause-stopped_again : goal.returns-clause-stopped_again
returns-clause-stopped_again c = stopped_again

pub returns-clause-handed_again : goal.returns-clause-handed_again
returns-clause-handed_again c = handed_again

pub returns-clause-replies : goal.returns-clause-replies
returns-clause-replies c = serial_replies

pub returns-clause-all : goal.returns-clause-all
returns-clause-all c = serial_all

pub returns-clause-records : goal.returns-clause-records
returns-clause-records c = serial_records

pub returns-clause-more : goal.returns-clause-more
returns-clause-more c = serial_more

pub returns-clause-output : goal.returns-clause-output
returns-clause-output c = output
