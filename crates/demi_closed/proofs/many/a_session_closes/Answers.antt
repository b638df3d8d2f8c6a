use Rattle.std.proofs.Common.{map, refl}
use Rattle.demi_port.specs.Seen.{known_at}
use Rattle.demi_closed.specs.ManyLinks.{session_of, worker_now}
use Rattle.demi_closed.proofs.ManyCloses.{all_answered, all_ended, all_even, all_torn, all_whole, all_written_out, ends_all, kept_of}
use Rattle.demi_closed.proofs.many.a_session_closes.Goals as goal

pub returns : goal.returns
returns f = λ b there workers links id seat end runs ports talks records are_workers are_served ends as_many results left.
    let all = ends_all f.a_worker_keeps.ensures.handed f.a_worker_keeps.ensures.stopped f.other_links_are_beside.ensures.none f.other_links_are_beside.ensures.on f.a_link_keeps.ensures.beside
    b there workers links are_workers are_served id seat end ends as_many f.a_closed_port_has_its_workers.ensures.closed runs ports talks records left results in
    let vs = map worker_now workers in
    let ks = map kept_of links in
    let run = session_of b runs records in
    let full = f.a_link_reads_and_writes.ensures.whole_talk in (
      record {
        talks = talks;
        accounted = f.a_closed_session_is_accounted.ensures.accounted b (known_at end) end.history vs ks run talks all;
        links = all_ended links runs ports talks results;
        served = λ told. f.a_closed_session_is_served.ensures.served b (known_at end) end.history vs ks run talks told all (all_torn f.a_link_reads_and_writes.ensures.talk links runs ports talks results);
        whole = λ told done. f.a_session_without_fault_is_whole.ensures.whole b (known_at end) end.history vs ks run talks all told (all_even links runs ports talks results done) (all_whole full links runs ports talks results done);
        answered = all_answered links runs ports talks results;
        written = all_written_out full links runs ports talks results;
      },
      refl,
    )
