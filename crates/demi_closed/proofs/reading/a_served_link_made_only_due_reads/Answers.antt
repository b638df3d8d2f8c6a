use Rattle.demi_closed.proofs.ReadsMade.{all_answered, only_due}
use Rattle.demi_closed.proofs.reading.a_served_link_made_only_due_reads.Goals as goal

pub returns-clause-due : goal.returns-clause-due
returns-clause-due g c = λ ports s d x rx_old rx_new tx_old tx_new l t told limit old fits known p r as_store.
    only_due g.I.Source.taken g.I.Source.left g.I.Source.faults g.I.Source.reads g.O.Sink.written g.O.Sink.faults ports s d x fits known rx_old rx_new tx_old tx_new p l t r told limit old as_store
    (λ end. c.an_ended_link_popped_all.ensures ports s d x end fits known)
    (c.an_ended_link_read_what_was_due.ensures.each ports s d x fits)
    c.a_link_reads_and_writes.ensures.torn
    c.a_link_reads_and_writes.ensures.whole

pub returns-clause-failed : goal.returns-clause-failed
returns-clause-failed g c = λ ports s d x rx_old rx_new tx_old tx_new l t told limit old fits known p r as_store failed.
    all_answered g.I.Source.taken g.I.Source.left g.I.Source.faults g.I.Source.reads g.O.Sink.written g.O.Sink.faults ports s d x fits known rx_old rx_new tx_old tx_new p l t r told limit old as_store
    (λ end. c.an_ended_link_popped_all.ensures ports s d x end fits known)
    (c.an_ended_link_read_what_was_due.ensures.each ports s d x fits)
    c.a_link_reads_and_writes.ensures.torn
    c.a_link_reads_and_writes.ensures.whole
    failed
    c.what_a_decoder_handed_out_is_asked.ensures.begins
    c.a_text_has_one_reading.ensures.only
    c.a_link_reads_and_writes.ensures.read
