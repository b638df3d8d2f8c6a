use Rattle.demi_link.proofs.Ended.{all_asked, asked_open, begins_asked, none_out}
use Rattle.demi_link.proofs.laws.an_ended_link_asked_what_it_was_fed.Goals as goal

pub returns-clause-asks : goal.returns-clause-asks
returns-clause-asks c = λ ports s d x f known. begins_asked c.what_a_decoder_handed_out_is_asked.ensures.begins c.what_a_decoder_handed_out_is_asked.ensures.finished ports s d x f known

pub returns-clause-so_far : goal.returns-clause-so_far
returns-clause-so_far c = λ ports s d x f known not_yet. asked_open c.what_a_decoder_handed_out_is_asked.ensures.begins c.what_a_decoder_handed_out_is_asked.ensures.refused ports s d x f known not_yet

pub returns-clause-all : goal.returns-clause-all
returns-clause-all c = λ ports s d x f done. all_asked c.what_a_decoder_handed_out_is_asked.ensures.begins c.what_a_decoder_handed_out_is_asked.ensures.finished ports s d x f done

pub returns-clause-out : goal.returns-clause-out
returns-clause-out c = none_out
