use Rattle.std.proofs.Common.{false, true}
use Rattle.demi_port.specs.Seen.{known_at}
use Rattle.demi_spec.specs.Input.{asked}
use Rattle.demi_streamq.specs.RxKept.{all_bytes}
use Rattle.demi_closed.proofs.LinkCloses as link
use Rattle.demi_closed.proofs.NeverBegan.{asked_none, over_of, popped_none, settle, wrote_none}
use Rattle.demi_closed.proofs.closing.a_served_link_closes.Goals as goal

pub returns : goal.returns
returns g c = λ ports s d x rx_old rx_new tx_old tx_new w p.
    let taken = g.I.Source.taken in
    let left = g.I.Source.left in
    let rf = g.I.Source.faults in
    let reads = g.I.Source.reads in
    let written = g.O.Sink.written in
    let wf = g.O.Sink.faults in
    let own_pop = link.own_pop taken left rf reads written wf ports s d x w rx_old rx_new tx_old tx_new p in
    let rx_knew = link.rx_knew taken left rf reads written wf ports s d x w rx_old rx_new tx_old tx_new p in
    let own_push = link.own_push taken left rf reads written wf ports s d x w rx_old rx_new tx_old tx_new p in
    let tx_knew = link.tx_knew taken left rf reads written wf ports s d x w rx_old rx_new tx_old tx_new p in
    let receives = c.a_receiving_port_ends.ensures.ends rx_old rx_new rx_new.pass.heap p.rx_seat p.rx_closed.unserved p.rx_closed.unfinished p.rx_closed.goes p.rx_closed.agrees in
    let sends = c.a_sending_port_ends.ensures.ends tx_old tx_new p.tx_seat p.tx_closed.unserved p.tx_closed.unfinished p.tx_closed.goes p.tx_closed.agrees in
    link.closed_link taken left rf reads written wf ports s d x w rx_old rx_new tx_old tx_new p
    (settle ports s d x (λ f. c.an_ended_link_popped_all.ensures ports s d x (known_at p.rx_end) f w.known rx_knew own_pop) (λ n. popped_none ports s d x n (known_at p.rx_end) own_pop) w)
    (settle ports s d x (λ f. c.an_ended_link_wrote.ensures.before ports s d x (known_at p.tx_end) f w.known tx_knew own_push) (λ n. wrote_none ports s d x n (known_at p.tx_end) own_push) w)
    (λ done. c.an_ended_link_wrote.ensures.all ports s d x (known_at p.tx_end) (over_of ports s d x w done) done tx_knew own_push)
    receives sends
    (c.a_link_reads_and_writes.ensures.read rx_new.served rx_new.finished d.talk.outs receives)
    (c.a_receiving_port_ends.ensures.took rx_old rx_new p.rx_closed.unfinished p.rx_closed.goes)
    (c.a_sending_port_ends.ensures.wrote tx_old tx_new p.tx_closed.unserved p.tx_closed.unfinished p.tx_closed.goes)
    (link.pieces_are rx_new.finished)
    (settle ports s d x (λ f. c.an_ended_link_asked_what_it_was_fed.ensures.asks ports s d x f w.known) (λ n. asked_none ports s d x n (asked (all_bytes d.talk.outs) true)) w)
    (λ not_yet. settle ports s d x (λ f. c.an_ended_link_asked_what_it_was_fed.ensures.so_far ports s d x f w.known not_yet) (λ n. asked_none ports s d x n (asked (all_bytes d.talk.outs) false)) w)
    (λ done. c.an_ended_link_asked_what_it_was_fed.ensures.all ports s d x (over_of ports s d x w done) done)
    (c.a_text_that_ended_asks_on.ensures.ended (all_bytes d.talk.outs))
